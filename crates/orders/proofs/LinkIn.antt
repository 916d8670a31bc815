-- What is read from the links.
use Rattle.lists.proofs.Prelude.{◌≡◌, List, ℕ, ◌/◌, ◌≤◌, ◌<◌, arith, length, lt-ltb, le-ltb, nth}
use Rattle.orders.specs.Links.{link_in, links_size}

module _ (v t i : ℕ) (links : List ℕ) where
  pub link_some : t < v → v < length links / 4 → nth links i ≡ link_in v t i links
  link_some h g = rw (lt-ltb t v h, lt-ltb v (length links / 4) g)

  pub link_few : t < v → length links / 4 ≤ v → 0 ≡ link_in v t i links
  link_few h g = rw (lt-ltb t v h, le-ltb v (length links / 4) g)

  pub link_none : v ≤ t → 0 ≡ link_in v t i links
  link_none h = rw (le-ltb t v h)

  -- Where there are links of v tasks and some edges, each cell is read as it is.
  pub link_in_lem : (e : ℕ) → links_size v e ≤ length links → t < v → link_in v t i links ≡ nth links i
  link_in_lem e s h = let g : v < length links / 4 = omega arith in rw (lt-ltb t v h, lt-ltb v (length links / 4) g)

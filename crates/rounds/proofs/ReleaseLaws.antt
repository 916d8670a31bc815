-- An edge no longer blocks the task that it enters: the counts and the priorities after it.
use Rattle.lists.proofs.Prelude.{◌≡◌, refl, ap, ◌∙◌, sym, ⊎_elim, List, [], ◌∷◌, ℕ, suc, ◌+◌, ◌*◌, ◌-◌, ◌<◌, ◌≤◌, arith, eq-eqb, ne_eqb, eqb, length, set, length-set, get_or-set_same, get_or-set_other, nth, keep, Limits, Edge, incoming, outgoing, tick_of, scale}
use Rattle.heads.specs.Layout.{line_at, level_at, blocked_at, priority_at, row_at}
use Rattle.orders.specs.Edges.{edge_in}
use Rattle.orders.proofs.Walk.{passed, pass_more, Passed, pass_at, pass_back}
use Rattle.jobs.specs.Held.{edge_at, job_in, JobHeld}
use Rattle.plans.specs.Lines.{row_of}
use Rattle.rounds.specs.Schedule.{top_in}
use Rattle.rounds.specs.Planning.{Drawn, blocking, entries, priority_of, Ranked, Blocked, Unblocked}
use Rattle.lists.specs.Kept.{KeptOutside}
use Rattle.lists.proofs.Counting.{equal_or_not}
use Rattle.lists.proofs.Kept.{same_behind, kept_then}
use Rattle.lists.proofs.ListLaws.{keep_same}
use Rattle.jobs.proofs.Held.{Sizes, sizes, job_kept}
use Rattle.rounds.proofs.Tables.{from_below, top_kept}
use Rattle.rounds.proofs.FreeLaws.{free_both, free_yes, unblocked_kept, blocked_other, priority_other}
use Rattle.rounds.proofs.LevelLaws.{leaves_to}
use Rattle.rounds.proofs.Drawing.{predecessors_none, drawn_choice}

module _ {lim : Limits} {capacity u : ℕ} {d : List ℕ} (w : Sizes lim capacity d) (v : Blocked capacity u d) where
  abbrev count : ℕ
  count = nth d (blocked_at capacity + u)

  -- The count is stored last.
  counted : (m : List ℕ) (b : ℕ) → length m ≡ length d → ((i : ℕ) → (i ≡ priority_at capacity + u → ⊥) → nth m i ≡ nth d i) → suc b ≡ count
      → (b ≡ 0 → nth m (priority_at capacity + u) ≡ priority_of capacity d u) → Unblocked capacity u d (set m (blocked_at capacity + u) b)
  counted m b z k q f =
      let at = blocked_at capacity + u in
      let here = get_or-set_same m at b 0 (omega (arith, w.tasks_most, w.size, v.task)) in
      record {
        size = length-set m at b ∙ z;
        count = ap suc here ∙ q;
        priority = λ e. get_or-set_other m at (priority_at capacity + u) b 0 (λ g. omega (arith, w.tasks_most)) ∙ f (sym here ∙ e);
        other = λ i p g. get_or-set_other m at i b 0 p ∙ k i g;
      }

  -- Other edges block u still.
  pub still_blocked : 1 < count → Unblocked capacity u d (set d (blocked_at capacity + u) (count - 1))
  still_blocked g = counted d (count - 1) refl (λ i o. refl) (omega arith) (λ z. absurd (omega arith))

  -- It is free.
  pub now_free : count ≤ 1 → (x : ℕ) → x ≡ tick_of (top_in capacity u d) * scale (job_in d)
      → Unblocked capacity u d (set (set d (priority_at capacity + u) (x + nth d (level_at capacity + u))) (blocked_at capacity + u) 0)
  now_free g x e =
      let at = priority_at capacity + u in
      let y = x + nth d (level_at capacity + u) in
      counted (set d at y) 0 (length-set d at y) (λ i o. get_or-set_other d at i y 0 o) (omega (arith, v.some))
      (λ z. get_or-set_same d at y 0 (omega (arith, w.tasks_most, w.size, v.task)) ∙ ap (◌+ nth d (level_at capacity + u)) e)

module _ {capacity : ℕ} {a : Edge} {es : List Edge} {d : List ℕ} (r : Ranked capacity (a ∷ es) d) (l : a.to < nth d 0) where
  entries_here : entries a.to (a ∷ es) ≡ suc (entries a.to es)
  unfolding keep
  entries_here = rw (eq-eqb a.to a.to refl)

  -- The edge a blocks the task that it enters.
  pub blocked : Blocked capacity a.to d
  blocked =
      let n = r.blocked a.to l in
      record { task = l; some = omega (arith, entries_here); last = λ e. predecessors_none capacity a.to d (omega (arith, entries_here)) }

  -- It no longer does.
  module _ {lim : Limits} {k : ℕ} {e : List ℕ} (s : Drawn lim capacity k d) (x : Unblocked capacity a.to d e) where
    h : JobHeld lim capacity d
    h = s.standing.job

    w : Sizes lim capacity d
    w = sizes h

    c : KeptOutside (blocked_at capacity) (row_at capacity 0) d e
    c = unblocked_kept w l x

    tasks : nth e 0 ≡ nth d 0
    tasks = c.before 0 (omega (arith, w.tasks_most))

    old : {u : ℕ} → u < nth e 0 → u < nth d 0
    old g = omega (arith, tasks)

    job : job_in e ≡ job_in d
    job = job_kept h c (omega arith)

    line : (u : ℕ) → u < nth d 0 → nth e (line_at capacity + u) ≡ nth d (line_at capacity + u)
    line u g = c.before (line_at capacity + u) (omega (arith, w.tasks_most))

    same : (u : ℕ) → blocking capacity e u ≡ blocking capacity d u
    same u =
        rw job (ap length (keep_same (λ y. eqb (nth e (line_at capacity + y.from)) 0) (λ y. eqb (nth d (line_at capacity + y.from)) 0) (incoming (job_in d) u)
        (λ y i. rw (line y.from (from_below h u y i)))))

    top : (u : ℕ) → top_in capacity u e ≡ top_in capacity u d
    top u = top_kept h c (omega arith) (omega arith) u (λ y i. (line y.from (from_below h u y i), same_behind (row_of capacity y.from d) _ c (omega arith)))

    pub ranked_less : Ranked capacity es e
    unfolding keep
    ranked_less =
        record {
          blocked = λ u g. ⊎_elim
              (λ (q : u ≡ a.to). rw q (omega (arith, x.count, r.blocked a.to l, entries_here, same a.to)))
              (λ o. rw (blocked_other w l x u (old g) o, same u, r.blocked u (old g), ne_eqb a.to u (λ q. o (sym q))))
              (equal_or_not u a.to);
          priorities = λ u g f.
              let (i, b) = free_both capacity e u f in
              rw (top u, job, c.before (level_at capacity + u) (omega (arith, w.tasks_most, old g)))
              (⊎_elim
              (λ (q : u ≡ a.to). rw q (x.priority (rw q at b)))
              (λ o. priority_other w l x u (old g) o ∙ r.priorities u (old g) (free_yes capacity d u (sym (line u (old g)) ∙ i) (sym (blocked_other w l x u (old g) o) ∙ b)))
              (equal_or_not u a.to));
        }

-- No edge is counted any more.
pub release_done : {capacity : ℕ} {es : List Edge} {mem : List ℕ} → Ranked capacity es mem → es ≡ [] → Ranked capacity [] mem
release_done r z = rw z at r

-- The way over the edges that leave t, from the last to the first: those in the cells from k on are no longer counted.
pub record Releasing (capacity t a b k : ℕ) (d mem : List ℕ) : Type 0 where
  pub walk : Passed a b d (outgoing (job_in d) t) k
  pub within : b ≤ edge_at d (nth d 2)
  pub kept : KeptOutside (blocked_at capacity) (row_at capacity 0) d mem
  pub ranked : Ranked capacity (passed a k d) mem

-- The edge in cell j is next, and enters u.
module _ {lim : Limits} {capacity n t a b k : ℕ} {d mem : List ℕ} (s : Drawn lim capacity n d) (r : Releasing capacity t a b k d mem) (j : ℕ) (h : (a ≤ j) × (k ≡ j + 1)) where
  still : Drawn lim capacity n mem
  still = drawn_choice r.kept s

  next : Ranked capacity (edge_in (nth d j) ∷ passed a j d) mem
  next = rw (pass_more a d j k h.0 h.1) at r.ranked

  rest : Passed a b d (outgoing (job_in d) t) j
  rest = pass_back r.walk j h.0 h.1

  module _ {u : ℕ} (f : u ≡ (edge_in (nth mem j)).to) where
    enters : u ≡ (edge_in (nth d j)).to
    enters = f ∙ ap (λ (x : ℕ). (edge_in x).to) (r.kept.before j (omega (arith, r.walk.most, r.within, (sizes s.standing.job).cells_room)))

    enters_below : (edge_in (nth d j)).to < nth mem 0
    enters_below =
        let w = sizes s.standing.job in
        rw (r.kept.before 0 (omega arith)) (leaves_to s.standing.job t (edge_in (nth d j)) (pass_at rest (omega (arith, r.walk.most))))

    pub release_asks : Blocked capacity u mem
    release_asks = rw enters (blocked next enters_below)

    pub release_next : {e : List ℕ} → Unblocked capacity u mem e → Releasing capacity t a b j d e
    release_next x =
        let y = rw enters at x in
        record {
          walk = rest;
          within = r.within;
          kept = kept_then r.kept (unblocked_kept (sizes still.standing.job) enters_below y);
          ranked = ranked_less next enters_below still y;
        }

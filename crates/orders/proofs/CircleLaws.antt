-- The edges form a circle exactly if an order lacks a task.
use Rattle.std.specs.Prelude.{Ok, Err}
use Rattle.lists.proofs.Prelude.{◌≡◌, refl, sym, ◌∙◌, List, [], map, Bool, true, false, ℕ, ◌≤◌, arith, ltb, drop, le-ltb, ltb-false, Edge, Job, circular, nth, distinct, inl, zero, suc, ◌+◌, ◌<◌, get_or-drop, lt-ltb}
use Rattle.definitions.proofs.Lists.{head_apart}
use Rattle.orders.specs.Edges.{edge_in}
use Rattle.orders.specs.Order.{Within, Rising, listed, Arranged}
use Rattle.orders.specs.Links.{order_at, circles, Runs, Linked, LinkedAs}
use Rattle.orders.specs.declared.Unlinked.TheVariants.{Circle}
use Rattle.orders.proofs.OrderLaws.{listed_place, place_listed, arranged_most, arranged_all, arranged_none}

-- A job with v tasks and these edges.
abbrev job_with : ℕ → List Edge → Job
job_with v es = record { tasks = v; processors = 0; losses = 0; runs = []; delays = []; edges = es }

-- Something remains exactly if an order lacks a task.
pub order_short : (v : ℕ) (es : List Edge) → Within v es → {order : List ℕ} {n : ℕ} → Arranged v es order n → ltb n v ≡ circles v es
unfolding circular
order_short v es w {order} {n} a = by (circular (job_with v es)) refl (ltb n v) refl
  where
    by : (b : Bool) → circular (job_with v es) ≡ b → (s : Bool) → ltb n v ≡ s → s ≡ b
    by true e true l = refl
    by true e false l = let z = arranged_none (job_with v es) a (ltb-false n v l) (λ d i. (w d i).1) in cc
    by false e s l =
        let every : n ≡ v = arranged_all (job_with v es) e a (λ d i. (w d i).0) in
        sym l ∙ le-ltb n v (omega arith)

-- An order that lacks no task is one of all.
pub linked_all : {v : ℕ} {edges links : List ℕ} {n : ℕ} → Runs v edges links → Arranged v (map edge_in edges) (drop (order_at v 0) links) n → v ≤ n → Linked v edges links
linked_all {v} {n = n} r a h = let e : n ≡ v = omega (arith, arranged_most a) in record { runs = r; order = rw e at a }

-- Where every edge rises, the tasks by number are an order of them.
pub numbered : {v : ℕ} {edges links : List ℕ} → Runs v edges links → Rising (map edge_in edges) → ((t : ℕ) → t < v → nth links (order_at v t) ≡ t) → Linked v edges links
unfolding listed distinct
numbered {v} {edges} {links} runs r o = record {
  runs = runs;
  order = record {
    task_of = λ t i. let (k, h, e) = listed_place order v t i in omega (arith, e, at k h);
    once = apart v (omega arith);
    after = λ k h e i q.
        let l : e.from < k = omega (arith, r e i, q, at k h) in
        let m = at e.from (omega arith) in
        rw m at (place_listed order k e.from l);
    rest = λ t h. let m = at t h in inl (rw m at (place_listed order v t h));
  };
}
  where
    order : List ℕ
    order = drop (order_at v 0) links

    at : (t : ℕ) → t < v → nth order t ≡ t
    at t h = let q : order_at v t ≡ order_at v 0 + t = omega arith in get_or-drop (order_at v 0) links t 0 ∙ rw q at (o t h)

    apart : (n : ℕ) → n ≤ v → distinct (listed order n) ≡ true
    apart zero h = refl
    apart (suc n) h =
        head_apart (nth order n) (listed order n)
        (λ i. let (k, l, e) = listed_place order n (nth order n) i in omega (arith, e, at k (omega arith), at n (omega arith))) (apart n (omega arith))

-- What is answered, by whether all tasks have an order or one lacks some.
module _ (v : ℕ) (edges before after : List ℕ) (w : Within v (map edge_in edges)) where
  pub linked_joined : Linked v edges after → LinkedAs true (circles v (map edge_in edges)) v edges before after (Ok tt)
  linked_joined k =
      let z : circles v (map edge_in edges) ≡ false = sym (order_short v (map edge_in edges) w k.order) ∙ le-ltb v v (omega arith) in
      rw z (refl, k)

  pub linked_circle : {n : ℕ} → Arranged v (map edge_in edges) (drop (order_at v 0) after) n → n < v
      → LinkedAs true (circles v (map edge_in edges)) v edges before after (Err Circle)
  linked_circle {n} a h =
      let z : circles v (map edge_in edges) ≡ true = sym (order_short v (map edge_in edges) w a) ∙ lt-ltb n v h in
      rw z refl

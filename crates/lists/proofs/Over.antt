-- A list written over another from a place on, and a part of a `&mut` slice that a callee wrote and gave back. Assumes nothing.
use Rattle.lists.proofs.Prelude.{◌≡◌, ap, ◌∙◌, sym, List, [], ◌∷◌, ◌++◌, append_assoc, append-nil, ℕ, suc, ◌+◌, ◌-◌, ◌<◌, ◌≤◌, arith, add-zero, add-one, length, set, length-set, take, drop, length-append, length-drop, drop_of_length-le, drop-cons, get_or-set_same, drop-set-lt, take_all, length-take-le, drop_at}
use native.Mathlib.Nat.{zero-add, add_assoc}
use lib.ListN.{take-append-drop}
use lib.Seq.{take-set-le, take-suc-set, drop-drop, take_at}
use borrow.Rule.Slice.PartMut.{mid_of, post_of, put_mid}
use Rattle.lists.specs.Over.{over}

-- nothing written
pub over_nil : (d : List ℕ) (at : ℕ) → over d at [] ≡ d
unfolding over
over_nil d at = simp (add-zero, take-append-drop)

pub length_over : (d : List ℕ) (at : ℕ) (s : List ℕ) → at + length s ≤ length d → length (over d at s) ≡ length d
unfolding over
length_over d at s h = simp (length-append, length-take-le at d (omega arith), length-drop) (omega arith)

-- one after the other is both at once
pub over_over : (d : List ℕ) (at : ℕ) (s t : List ℕ) (m : ℕ) → m ≡ at + length s → at + length s ≤ length d → over (over d at s) m t ≡ over d at (s ++ t)
unfolding over
over_over d at s t m e h =
    let l : length (take at d ++ s) ≡ m = simp (length-append, length-take-le at d (omega arith)) (omega arith) in
    let p : over d at s ≡ take at d ++ s ++ drop m d = simp (append_assoc, e) in
    let a : take m (over d at s) ≡ take at d ++ s = rw p (take_at (take at d ++ s) (drop m d) m l) in
    let b : drop m (over d at s) ≡ drop m d = rw p (drop_at (take at d ++ s) (drop m d) m l) in
    let b' : drop (m + length t) (over d at s) ≡ drop (m + length t) d = sym (drop-drop (length t) m (over d at s)) ∙ ap (drop (length t)) b ∙ drop-drop (length t) m d in
    rw (a, b') (simp (append_assoc, length-append, e, add_assoc))

-- the rest of a slice was lent, `&mut d[at..]`, and the callee wrote s at its front
pub lent : (d : List ℕ) (at : ℕ) (s ys : List ℕ) → at ≤ length d → ys ≡ over (mid_of at (length d - at) d) 0 s → put_mid at (length d - at) d ys ≡ over d at s
unfolding over
lent d at s ys h e =
    let m : mid_of at (length d - at) d ≡ drop at d = take_all (length d - at) (drop at d) (simp length-drop (omega arith)) in
    let p : post_of at (length d - at) d ≡ [] = drop_of_length-le (drop at d) {i = length d - at} (simp length-drop (omega arith)) in
    rw (e, m) (simp (p, append-nil, zero-add, drop-drop))

-- the rest of a slice was lent, `&mut d[a..]`, and holds ys since
pub drop_lent : (a : ℕ) (d ys : List ℕ) → a ≤ length d → drop a (put_mid a (length d - a) d ys) ≡ ys
drop_lent a d ys h =
    let p : post_of a (length d - a) d ≡ [] = drop_of_length-le (drop a d) {i = length d - a} (simp length-drop (omega arith)) in
    drop_at (take a d) (ys ++ post_of a (length d - a) d) a (length-take-le a d h) ∙ rw (p, append-nil)

-- one store is one element more
pub over_set : (d : List ℕ) (k v : ℕ) (t : List ℕ) → k < length d → over (set d k v) (k + 1) t ≡ over d k (v ∷ t)
unfolding over
over_set d k v t h =
    let e : take (k + 1) (set d k v) ≡ take k d ++ (v ∷ []) = rw add-one (take-suc-set d k v h) in
    let n : k + 1 + length t ≡ k + suc (length t) = omega arith in
    let f : drop (k + 1 + length t) (set d k v) ≡ drop (k + suc (length t)) d = drop-set-lt (k + 1 + length t) d k v (omega arith) ∙ ap (λ (j : ℕ). drop j d) n in
    rw (e, f) (simp append_assoc)

-- the same with the next place said in another way
pub over_put : (d : List ℕ) (k v : ℕ) (t : List ℕ) (m : ℕ) → m ≡ k + 1 → k < length d → over (set d k v) m t ≡ over d k (v ∷ t)
over_put d k v t m e h = rw e (over_set d k v t h)

drop_set_same : (l : List ℕ) (j a : ℕ) → j < length l → drop j (set l j a) ≡ a ∷ drop (suc j) l
drop_set_same l j a h =
    let g : j < length (set l j a) = simp length-set h in
    drop-cons (set l j a) j 0 g ∙ rw (get_or-set_same l j a 0 h, drop-set-lt (suc j) l j a (omega arith))

-- a store just past what is to be written
pub over_set_after : (d : List ℕ) (at : ℕ) (s : List ℕ) (k v : ℕ) → k ≡ at + length s → k < length d → over (set d k v) at s ≡ over d at (s ++ v ∷ [])
unfolding over
over_set_after d at s k v e h =
    let a : take at (set d k v) ≡ take at d = take-set-le at d k v (omega arith) in
    let n : suc k ≡ at + (length s + 1) = omega arith in
    let b : drop (at + length s) (set d k v) ≡ v ∷ drop (at + (length s + 1)) d = rw (← e) (drop_set_same d k v h ∙ ap (λ (j : ℕ). v ∷ drop j d) n) in
    rw (a, b) (simp (append_assoc, length-append))

-- what was written after s, at the place after s
pub over_then : (d x y : List ℕ) (at : ℕ) (s t : List ℕ) (m : ℕ) → x ≡ over d at s → y ≡ over x m t → m ≡ at + length s → at + length s ≤ length d → y ≡ over d at (s ++ t)
over_then d x y at s t m e f em h = f ∙ ap (λ (l : List ℕ). over l m t) e ∙ over_over d at s t m em h

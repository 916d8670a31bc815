-- Words about lists that the other definitions use.
use Rattle.std.specs.Prelude.{ℕ, zero, suc, ◌+◌, max, ◌≡◌, ◌⊎◌, List, [], ◌∷◌, Bool, true, false, not, ◌&&◌, ◌||◌, eqb, get_or, if◌then◌else◌}
use Prim.Native.Char.{code}
use Prim.Native.String as S
use Prim.Native.String.{String}

-- A quoted text as the list of its bytes.
abbrev pub bytes : String → List ℕ
bytes S.[] = []
bytes (S.◌∷◌ c s) = code c ∷ bytes s

-- Number i of a list, counted from 0.
abbrev pub nth : List ℕ → ℕ → ℕ
nth xs i = get_or xs i 0

-- The n numbers from k on, ascending; the numbers below n.
unfoldable pub count_from : ℕ → ℕ → List ℕ
count_from k zero = []
count_from k (suc n) = k ∷ count_from (suc k) n

abbrev pub below : ℕ → List ℕ
below n = count_from 0 n

-- The members for which f is true, in their order.
unfoldable pub keep : {A : Type 0} → (A → Bool) → List A → List A
keep f [] = []
keep f (x ∷ xs) = let others = keep f xs in if f x then x ∷ others else others

-- f is true of some member; of every member.
unfoldable pub any : {A : Type 0} → (A → Bool) → List A → Bool
any f [] = false
any f (x ∷ xs) = let others = any f xs in f x || others

unfoldable pub all : {A : Type 0} → (A → Bool) → List A → Bool
all f [] = true
all f (x ∷ xs) = let others = all f xs in f x && others

-- x is a member; the test for it, of numbers.
abbrev pub In : {A : Type 0} → A → List A → Type 0
In x [] = ⊥
In x (y ∷ ys) = (y ≡ x) ⊎ In x ys

abbrev pub has : ℕ → List ℕ → Bool
has x xs = any (λ y. eqb y x) xs

-- There is no member.
abbrev pub empty : {A : Type 0} → List A → Bool
empty [] = true
empty (x ∷ xs) = false

-- The first list if it has a member, else the second.
abbrev pub some_or : {A : Type 0} → List A → List A → List A
some_or [] ys = ys
some_or (x ∷ xs) ys = x ∷ xs

-- The last member alone; none of none.
unfoldable pub last_of : {A : Type 0} → List A → List A
last_of [] = []
last_of (x ∷ xs) = some_or (last_of xs) (x ∷ [])

-- Two lists have the same numbers in the same order.
unfoldable pub same_numbers : List ℕ → List ℕ → Bool
same_numbers [] [] = true
same_numbers [] (y ∷ ys) = false
same_numbers (x ∷ xs) [] = false
same_numbers (x ∷ xs) (y ∷ ys) = let others = same_numbers xs ys in eqb x y && others

-- No member stands twice.
unfoldable pub distinct : List ℕ → Bool
distinct [] = true
distinct (x ∷ xs) = let others = distinct xs in not (has x xs) && others

-- All members added up.
unfoldable pub sum : List ℕ → ℕ
sum [] = 0
sum (x ∷ xs) = x + sum xs

-- The greatest member; 0 of none.
unfoldable pub greatest : List ℕ → ℕ
greatest [] = 0
greatest (x ∷ xs) = max x (greatest xs)

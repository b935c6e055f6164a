-- Places of two parts, the one's before the other's.
use Rattle.std.proofs.Common.{◌≡◌, ℕ, ◌+◌, ◌-◌, ◌<◌, ◌≤◌, Bool, false, T, ltb, ◌⊎◌, refl, ap, subst, inl, inr, ⊎_elim, arith}
use Rattle.std.proofs.lemmas.Bool.{cases_lt, lt-ltb, le-ltb}
use Rattle.kat.specs.Places.{side}

pub side_left : {A : Type 0} (n x : ℕ) (l r : ℕ → A) → x < n → side n x l r ≡ l x
unfolding side
side_left n x l r h = rw (lt-ltb x n h, side) refl

pub side_right : {A : Type 0} (n x : ℕ) (l r : ℕ → A) → side n (n + x) l r ≡ r x
unfolding side
side_right n x l r =
    let e : ltb (n + x) n ≡ false = le-ltb (n + x) n (omega arith) in
    let d : (n + x) - n ≡ x = omega arith in
    rw (e, side) (ap r d)

-- a place is one of the first n, or one behind them
pub data Where (n : ℕ) : ℕ → Type 0 where
  before : {x : ℕ} → x < n → Where n x
  behind : (z : ℕ) → Where n (n + z)

pub where_is : (n x : ℕ) → Where n x
where_is n x = ⊎_elim (λ h. before h) (λ h. let e : n + (x - n) ≡ x = omega arith in subst (Where n) e (behind (x - n))) (cases_lt x n)

-- the same of a place of two parts, where the second has m places
pub data Side (n m : ℕ) : ℕ → Type 0 where
  here : {x : ℕ} → x < n → Side n m x
  there : {x : ℕ} → x < m → Side n m (n + x)

pub side_of : (n m x : ℕ) → x < n + m → Side n m x
side_of n m x h = by x (where_is n x) h
  where
    by : (x : ℕ) → Where n x → x < n + m → Side n m x
    by x (before k) h = here k
    by x (behind z) h = there (omega arith)

-- What is said of a place of both, one of them says.
pub either_side : (n x : ℕ) (l r : ℕ → Bool) → T (side n x l r) → ((x < n) × T (l x)) ⊎ ((n ≤ x) × T (r (x - n)))
either_side n x l r t = by x (where_is n x) t
  where
    by : (x : ℕ) → Where n x → T (side n x l r) → ((x < n) × T (l x)) ⊎ ((n ≤ x) × T (r (x - n)))
    by x (before k) t = inl (k, simp side_left at t)
    by x (behind z) t = let e : (n + z) - n ≡ z = omega arith in inr (omega arith, rw e (simp side_right at t))

pub side_within : (n m x : ℕ) (l r : ℕ → Bool) → ((y : ℕ) → T (r y) → y < m) → T (side n x l r) → x < n + m
side_within n m x l r h t = ⊎_elim (λ k. omega arith) (λ k. let j = h (x - n) k.1 in omega arith) (either_side n x l r t)

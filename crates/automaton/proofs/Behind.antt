-- What is said of places behind others.
use Rattle.std.proofs.Common.{◌≡◌, ℕ, ◌+◌, ◌<◌, Bool, false, ◌&&◌, ◌||◌, T, sym, refl, ap, ◌∙◌, subst, arith}
use mathlib.Core.Bool.{and-false, or-false}
use Rattle.std.proofs.lemmas.Bool.{false_from_ne_true}
use Rattle.kat.specs.Places.{side}
use Rattle.kat.proofs.Sides.{side_left, side_right, Where, before, where_is}
use Rattle.kat.proofs.Sides as sides
use Rattle.automaton.specs.Building.{behind}

pub behind_before : (n y : ℕ) (f : ℕ → Bool) → y < n → behind n f y ≡ false
behind_before n y f h = side_left n y (λ v. false) f h

pub behind_past : (n z : ℕ) (f : ℕ → Bool) → behind n f (n + z) ≡ f z
behind_past n z f = side_right n z (λ v. false) f

-- What is said alike is alike behind others.
pub behind_same : (n y : ℕ) (f g : ℕ → Bool) → ((x : ℕ) → f x ≡ g x) → behind n f y ≡ behind n g y
behind_same n y f g e = ap (λ h. behind n h y) (λ j x. e x j)

pub behind_none : (n y : ℕ) → behind n (λ x. false) y ≡ false
behind_none n y = by y (where_is n y)
  where
    by : (y : ℕ) → Where n y → behind n (λ x. false) y ≡ false
    by y (before h) = behind_before n y (λ x. false) h
    by y (sides.behind z) = behind_past n z (λ x. false)

pub behind_and : (n y : ℕ) (b : Bool) (f : ℕ → Bool) → behind n (λ x. b && f x) y ≡ (b && behind n f y)
behind_and n y b f = by y (where_is n y)
  where
    by : (y : ℕ) → Where n y → behind n (λ x. b && f x) y ≡ (b && behind n f y)
    by y (before h) = behind_before n y (λ x. b && f x) h ∙ sym (and-false b) ∙ ap (λ c. b && c) (sym (behind_before n y f h))
    by y (sides.behind z) = behind_past n z (λ x. b && f x) ∙ ap (λ c. b && c) (sym (behind_past n z f))

pub behind_or : (n y : ℕ) (f g : ℕ → Bool) → behind n (λ x. f x || g x) y ≡ (behind n f y || behind n g y)
behind_or n y f g = by y (where_is n y)
  where
    by : (y : ℕ) → Where n y → behind n (λ x. f x || g x) y ≡ (behind n f y || behind n g y)
    by y (before h) = rw (behind_before n y (λ x. f x || g x) h, behind_before n y f h, behind_before n y g h) refl
    by y (sides.behind z) = rw (behind_past n z (λ x. f x || g x), behind_past n z f, behind_past n z g) refl

-- Of two parts behind n places, the second is behind the first too.
pub behind_two : (n m y : ℕ) (f g : ℕ → Bool) → ((z : ℕ) → T (f z) → z < m) → behind n (λ z. side m z f g) y ≡ (behind n f y || behind (n + m) g y)
behind_two n m y f g within = by y (where_is n y)
  where
    inner : (z : ℕ) → Where m z → side m z f g ≡ (f z || behind (n + m) g (n + z))
    inner z (before h) = side_left m z f g h ∙ sym (or-false (f z)) ∙ ap (λ c. f z || c) (sym (behind_before (n + m) (n + z) g (omega arith)))
    inner z (sides.behind w) =
        let e : n + m + w ≡ n + (m + w) = omega arith in
        let s : behind (n + m) g (n + (m + w)) ≡ g w = subst (λ x. behind (n + m) g x ≡ g w) e (behind_past (n + m) w g) in
        let o : f (m + w) ≡ false = false_from_ne_true (f (m + w)) (λ e. let k = within (m + w) (subst T (sym e) tt) in omega arith) in
        side_right m w f g ∙ rw (o, s) refl

    by : (y : ℕ) → Where n y → behind n (λ z. side m z f g) y ≡ (behind n f y || behind (n + m) g y)
    by y (before h) = rw (behind_before n y (λ z. side m z f g) h, behind_before n y f h, behind_before (n + m) y g (omega arith)) refl
    by y (sides.behind z) = behind_past n z (λ z. side m z f g) ∙ inner z (where_is m z) ∙ ap (λ b. b || behind (n + m) g (n + z)) (sym (behind_past n z f))

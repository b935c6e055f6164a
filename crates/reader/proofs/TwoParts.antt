-- Terms of two parts: a frame for each part, what is read when both are, and where they are too deep.
use Rattle.std.proofs.Common.{◌≡◌, ℕ, suc, ◌+◌, ◌-◌, ◌<◌, ◌≤◌, List, [], ◌∷◌, ◌++◌, sym, refl, ap, ◌∙◌, append_assoc, append-nil, arith}
use Rattle.kat.specs.Programs.{Program, steps, depth, Limit, known, shallow, few, Keeps}
use Rattle.reader.specs.declared.refusals.Fault.{Fault}
use Rattle.reader.specs.Faults.{All, AllBut, Breaks}
use Rattle.reader.specs.Parts.{TermAs, FaultIn}
use Rattle.reader.proofs.Frames.{Frame, fault_in}
use Rattle.reader.proofs.Grammar.{Grammar, Joins, leaf_keeps, opens}

module _ {A : Type 0} {code : A → List ℕ} {program : A → Program} (g : Grammar code program) {w : ℕ} (j : Joins code program w) where
  -- A term of two parts keeps a limit if both parts do,
  join_keeps : (d d' k k' k'' : ℕ) → suc d ≡ d' → k + k'' ≤ k' → (l : Limit) (a b : A) → Keeps d k l (program a) → Keeps d k'' l (program b) → Keeps d' k' l (program (j.join a b))
  join_keeps d d' k k' k'' e m known a b x y = (j.knows a b).1 (x, y)
  join_keeps d d' k k' k'' e m shallow a b x y = omega (arith, j.nests a b)
  join_keeps d d' k k' k'' e m few a b x y = omega (arith, j.counts a b)

  -- and only then: the first in the same room, the second in what the first leaves.
  keeps_first : (d d' k : ℕ) → suc d ≡ d' → (l : Limit) (a b : A) → Keeps d' k l (program (j.join a b)) → Keeps d k l (program a)
  keeps_first d d' k e known a b x = ((j.knows a b).0 x).0
  keeps_first d d' k e shallow a b x = omega (arith, j.nests a b)
  keeps_first d d' k e few a b x = omega (arith, j.counts a b)

  keeps_second : (d d' k k' : ℕ) → suc d ≡ d' → (l : Limit) (a b : A) → steps (program a) + k' ≡ k → Keeps d' k l (program (j.join a b)) → Keeps d k' l (program b)
  keeps_second d d' k k' e known a b n x = ((j.knows a b).0 x).1
  keeps_second d d' k k' e shallow a b n x = omega (arith, j.nests a b)
  keeps_second d d' k k' e few a b n x = omega (arith, j.counts a b)

  own_room : (d k : ℕ) (a : A) → All (λ l a. Keeps d k l (program a)) a → All (λ l a. Keeps d (steps (program a)) l (program a)) a
  own_room d k a h known = h known
  own_room d k a h shallow = h shallow
  own_room d k a h few = omega arith

  -- the words behind w are those of the two parts
  parts : (c : A) (rest more : List ℕ) → w ∷ rest ≡ code c ++ more → (a b : A) × (c ≡ j.join a b) × (rest ≡ code a ++ (code b ++ more))
  parts c rest more e =
      let o = j.only c rest more e in
      (o.0, o.1, o.2, cc (e, ap code o.2, j.writes o.0 o.1, append_assoc (code o.0) (code o.1) more))

  pub first_frame : (d d' k : ℕ) → suc d ≡ d' → Frame code code (λ l a. Keeps d k l (program a)) (λ l a. Keeps d' k l (program a)) (w ∷ [])
  first_frame d d' k e = record {
    wrap = λ a. j.join a g.leaf;
    post = code g.leaf;
    wraps = λ a. j.writes a g.leaf;
    up = λ l a x. join_keeps d d' k k 0 e (omega arith) l a g.leaf x (leaf_keeps g d 0 l);
    down = λ c rest more h.
        let p = parts c rest more h in
        (p.0, code p.1 ++ more, p.3, λ l x. keeps_first d d' k e l p.0 p.1 (rw p.2 at x));
  }

  pub second_frame : (d d' k k' : ℕ) (a : A) → suc d ≡ d' → All (λ l a. Keeps d k l (program a)) a → steps (program a) + k' ≡ k → Frame code code (λ l a. Keeps d k' l (program a)) (λ l a. Keeps d' k l (program a)) (w ∷ code a)
  second_frame d d' k k' a e h n = record {
    wrap = λ b. j.join a b;
    post = [];
    wraps = λ b. j.writes a b ∙ ap (λ r. w ∷ (code a ++ r)) (sym (append-nil (code b)));
    up = λ l b y. join_keeps d d' (steps (program a)) k k' e (omega arith) l a b (own_room d k a h l) y;
    down = λ c rest more q.
        let p = parts c (code a ++ rest) more q in
        let o = g.one a p.0 rest (code p.1 ++ more) p.3 in
        (p.1, more, o.1, λ l x. keeps_second d d' k k' e l a p.1 n (rw (p.2 ∙ ap (λ z. j.join z p.1) (sym o.0)) at x));
  }

  -- Both parts read are the whole read,
  joined : (d d' k k' : ℕ) (a b : A) (ws rest second more : List ℕ) → suc d ≡ d' → ws ≡ w ∷ rest → rest ≡ code a ++ second → second ≡ code b ++ more → All (λ l a. Keeps d k l (program a)) a → steps (program a) + k' ≡ k → All (λ l a. Keeps d k' l (program a)) b → (ws ≡ code (j.join a b) ++ more) × All (λ l a. Keeps d' k l (program a)) (j.join a b)
  joined d d' k k' a b ws rest second more e h p q x n y =
      (cc (h, p, q, j.writes a b, append_assoc (code a) (code b) more), λ l. join_keeps d d' (steps (program a)) k k' e (omega arith) l a b (own_room d k a x l) (y l))

  -- which may be read with any further property; and a fault in a part is one of the whole.
  module _ (d k : ℕ) (ws rest : List ℕ) (e : ws ≡ w ∷ rest) (a : 0 < d) where
    pub first_part_fault : (f : Fault) → FaultIn code (λ l a. Keeps (d - 1) k l (program a)) rest f → FaultIn code (λ l a. Keeps d k l (program a)) ws f
    first_part_fault f x = fault_in (first_frame (d - 1) d k (omega arith)) ws rest f e x

    module _ (second : List ℕ) (k' : ℕ) (M : A → Type 0) (left : (a : A) → M a → steps (program a) + k' ≡ k) (r : TermAs program code M (d - 1) k rest second) where
      pub second_part_fault : (f : Fault) → FaultIn code (λ l a. Keeps (d - 1) k' l (program a)) second f → FaultIn code (λ l a. Keeps d k l (program a)) ws f
      second_part_fault f x = fault_in (second_frame (d - 1) d k k' r.0 (omega arith) r.2 (left r.0 r.3)) ws second f (cc (e, r.1)) x

      pub parts_read : (more : List ℕ) (N O : A → Type 0) → ((a b : A) → M a → N b → O (j.join a b)) → TermAs program code N (d - 1) k' second more → TermAs program code O d k ws more
      parts_read more N O join s =
          let y = joined (d - 1) d k k' r.0 s.0 ws rest second more (omega arith) e r.1 s.1 r.2 (left r.0 r.3) s.2 in
          (j.join r.0 s.0, y.0, y.1, join r.0 s.0 r.3 s.3)

  -- Where there is no room for a level, w breaks the limit.
  pub join_too_deep : (d k : ℕ) (v : List ℕ) → d ≡ 0 → Breaks code (λ l a. Keeps d k l (program a)) shallow [] (w ∷ v)
  join_too_deep d k v z = (
    opens g d k,
    (j.join g.leaf g.leaf, code g.leaf ++ code g.leaf, omega arith, sym (j.writes g.leaf g.leaf), but),
    λ c r r' e x. let p = parts c r r' e in let y : depth (program (j.join p.0 p.1)) ≤ d = rw p.2 at x in omega (arith, j.nests p.0 p.1),
  )
    where
      but : AllBut (λ l a. Keeps d k l (program a)) shallow (j.join g.leaf g.leaf)
      but known ne = (j.knows g.leaf g.leaf).1 (g.leaf_known, g.leaf_known)
      but shallow ne = absurd (ne refl)
      but few ne = omega (arith, j.counts g.leaf g.leaf, g.leaf_steps)

-- Terms of one part: its frame, what is read when the part is, and where it is too deep.
use Rattle.std.proofs.Common.{◌≡◌, ℕ, suc, ◌≤◌, List, [], ◌∷◌, ◌++◌, sym, refl, ap, ◌∙◌, append-nil, arith}
use Rattle.kat.specs.Programs.{Program, depth, Limit, known, shallow, few, Keeps}
use Rattle.reader.specs.Faults.{All, AllBut, Breaks}
use Rattle.reader.proofs.Frames.{Frame}
use Rattle.reader.proofs.Grammar.{Grammar, Wraps, opens}

module _ {A : Type 0} {code : A → List ℕ} {program : A → Program} (g : Grammar code program) {w : ℕ} (o : Wraps code program w) where
  wrap_keeps : (d d' k : ℕ) → suc d ≡ d' → (l : Limit) (a : A) → Keeps d k l (program a) → Keeps d' k l (program (o.wrap a))
  wrap_keeps d d' k e known a x = (o.knows a).1 x
  wrap_keeps d d' k e shallow a x = omega (arith, o.nests a)
  wrap_keeps d d' k e few a x = omega (arith, o.counts a)

  keeps_part : (d d' k : ℕ) → suc d ≡ d' → (l : Limit) (a : A) → Keeps d' k l (program (o.wrap a)) → Keeps d k l (program a)
  keeps_part d d' k e known a x = (o.knows a).0 x
  keeps_part d d' k e shallow a x = omega (arith, o.nests a)
  keeps_part d d' k e few a x = omega (arith, o.counts a)

  part : (c : A) (rest more : List ℕ) → w ∷ rest ≡ code c ++ more → (a : A) × (c ≡ o.wrap a) × (rest ≡ code a ++ more)
  part c rest more e =
      let p = o.only c rest more e in
      (p.0, p.1, cc (e, ap code p.1, o.writes p.0))

  pub part_frame : (d d' k : ℕ) → suc d ≡ d' → Frame code code (λ l a. Keeps d k l (program a)) (λ l a. Keeps d' k l (program a)) (w ∷ [])
  part_frame d d' k e = record {
    wrap = o.wrap;
    post = [];
    wraps = λ a. o.writes a ∙ ap (λ r. w ∷ r) (sym (append-nil (code a)));
    up = λ l a x. wrap_keeps d d' k e l a x;
    down = λ c rest more h. let p = part c rest more h in (p.0, more, p.2, λ l x. keeps_part d d' k e l p.0 (rw p.1 at x));
  }

  pub wrapped : (d d' k : ℕ) (a : A) (ws rest more : List ℕ) → suc d ≡ d' → ws ≡ w ∷ rest → rest ≡ code a ++ more → All (λ l a. Keeps d k l (program a)) a → (ws ≡ code (o.wrap a) ++ more) × All (λ l a. Keeps d' k l (program a)) (o.wrap a)
  wrapped d d' k a ws rest more e h p x = (cc (h, p, o.writes a), λ l. wrap_keeps d d' k e l a (x l))

  pub wrap_too_deep : (d k : ℕ) (v : List ℕ) → d ≡ 0 → Breaks code (λ l a. Keeps d k l (program a)) shallow [] (w ∷ v)
  wrap_too_deep d k v z = (
    opens g d k,
    (o.wrap g.leaf, code g.leaf, omega arith, sym (o.writes g.leaf), but),
    λ c r r' e x. let p = part c r r' e in let y : depth (program (o.wrap p.0)) ≤ d = rw p.1 at x in omega (arith, o.nests p.0),
  )
    where
      but : AllBut (λ l a. Keeps d k l (program a)) shallow (o.wrap g.leaf)
      but known ne = (o.knows g.leaf).1 g.leaf_known
      but shallow ne = absurd (ne refl)
      but few ne = omega (arith, o.counts g.leaf, g.leaf_steps)

-- What is alike may be put for one another in anything, and a loop is the least that takes in its rounds; in each single
-- sense, and so in all.
use Rattle.std.proofs.Common.{ℕ}
use Rattle.kat.specs.Programs.{Program, seq, choice, star}
use Rattle.kat.specs.Senses.{Sense, Reaches, at_seq, at_left, at_right, at_none, at_more, AtMostIn, AtMost, AlikeIn, Alike}
use Rattle.kat.specs.Theory.{Context, hole, whole, in_seq, in_choice, in_star, fill, Substitutes, TakesIn, TakesInBefore, StarLeast, StarLeastBefore}

module _ (i : Sense) where
  seq_grows : (p q r t : Program) → AtMostIn i p q → AtMostIn i r t → AtMostIn i (seq p r) (seq q t)
  seq_grows p q r t f g s u (at_seq d e) = at_seq (f _ _ d) (g _ _ e)

  choice_grows : (p q r t : Program) → AtMostIn i p q → AtMostIn i r t → AtMostIn i (choice p r) (choice q t)
  choice_grows p q r t f g s u (at_left d) = at_left (f s u d)
  choice_grows p q r t f g s u (at_right d) = at_right (g s u d)

  star_grows : (p q : Program) → AtMostIn i p q → AtMostIn i (star p) (star q)
  star_grows p q f s u at_none = at_none
  star_grows p q f s u (at_more d e) = at_more (f _ _ d) (star_grows p q f _ _ e)

  fill_grows : (c : Context) (f g : ℕ → Program) → ((n : ℕ) → AtMostIn i (f n) (g n)) → AtMostIn i (fill f c) (fill g c)
  fill_grows (hole n) f g h = h n
  fill_grows (whole p) f g h = λ s u d. d
  fill_grows (in_seq c d) f g h = seq_grows _ _ _ _ (fill_grows c f g h) (fill_grows d f g h)
  fill_grows (in_choice c d) f g h = choice_grows _ _ _ _ (fill_grows c f g h) (fill_grows d f g h)
  fill_grows (in_star c) f g h = star_grows _ _ (fill_grows c f g h)

  pub substitutes_in : Substitutes (AlikeIn i)
  substitutes_in c f g h s u = (fill_grows c f g (λ n s u. (h n s u).0) s u, fill_grows c g f (λ n s u. (h n s u).1) s u)

  -- one more round, behind the others
  one_more : {p : Program} {s u v : ℕ} → Reaches i (star p) s u → Reaches i p u v → Reaches i (star p) s v
  one_more at_none d = at_more d at_none
  one_more (at_more e l) d = at_more e (one_more l d)

  -- What takes in p behind it takes in any number of rounds,
  rounds_behind : (p r : Program) → AtMostIn i (seq r p) r → {s u v : ℕ} → Reaches i r s u → Reaches i (star p) u v → Reaches i r s v
  rounds_behind p r f d at_none = d
  rounds_behind p r f d (at_more e l) = rounds_behind p r f (f _ _ (at_seq d e)) l

  loop_takes_in : (p q : Program) → TakesIn (AtMostIn i) p q (seq q (star p))
  loop_takes_in p q s u (at_left d) = at_seq d at_none
  loop_takes_in p q s u (at_right (at_seq (at_seq d l) e)) = at_seq d (one_more l e)

  loop_least : (p q r : Program) → TakesIn (AtMostIn i) p q r → AtMostIn i (seq q (star p)) r
  loop_least p q r h s u (at_seq d l) = rounds_behind p r (λ s u x. h s u (at_right x)) (h _ _ (at_left d)) l

  pub star_least_in : StarLeast (AtMostIn i)
  star_least_in p q = (loop_takes_in p q, loop_least p q)

  -- and what takes in p before it any number before it.
  rounds_before : (p r : Program) → AtMostIn i (seq p r) r → {s u v : ℕ} → Reaches i (star p) s u → Reaches i r u v → Reaches i r s v
  rounds_before p r f at_none d = d
  rounds_before p r f (at_more e l) d = f _ _ (at_seq e (rounds_before p r f l d))

  loop_takes_in_before : (p q : Program) → TakesInBefore (AtMostIn i) p q (seq (star p) q)
  loop_takes_in_before p q s u (at_left d) = at_seq at_none d
  loop_takes_in_before p q s u (at_right (at_seq e (at_seq l d))) = at_seq (at_more e l) d

  loop_least_before : (p q r : Program) → TakesInBefore (AtMostIn i) p q r → AtMostIn i (seq (star p) q) r
  loop_least_before p q r h s u (at_seq l d) = rounds_before p r (λ s u x. h s u (at_right x)) l (h _ _ (at_left d))

  pub star_least_before_in : StarLeastBefore (AtMostIn i)
  star_least_before_in p q = (loop_takes_in_before p q, loop_least_before p q)

pub substitutes : Substitutes Alike
substitutes c f g h i = substitutes_in i c f g (λ n. h n i)

pub star_least : StarLeast AtMost
star_least p q = (λ i. (star_least_in i p q).0, λ r h i. (star_least_in i p q).1 r (h i))

pub star_least_before : StarLeastBefore AtMost
star_least_before p q = (λ i. (star_least_before_in i p q).0, λ r h i. (star_least_before_in i p q).1 r (h i))

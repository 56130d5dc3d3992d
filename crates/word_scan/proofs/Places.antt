-- Two places in one list.
--
-- Places       where an item of a list stands beside another
-- places       of any two places
-- split_front  what a longer front has behind a shorter one
-- one_last     a list has one last item
use Rattle.std.proofs.Common.{◌≡◌, ◌≤◌, ◌+◌, ◌∙◌, List, [], ◌∷◌, ◌++◌, length, refl, sym, ap, arith, length-append}

-- at one place, sooner or later than it
pub data Places {A : Type 0} (b : List A) (w : A) (c : List A) (v : A) : Type 0 where
  Here : b ≡ c → w ≡ v → Places b w c v
  Sooner : (rest : List A) → c ≡ (b ++ w ∷ []) ++ rest → Places b w c v
  Later : (rest : List A) → b ≡ (c ++ v ∷ []) ++ rest → Places b w c v

heads : {A : Type 0} (x y : A) (xs ys : List A) → x ∷ xs ≡ y ∷ ys → x ≡ y
heads x y xs ys e = cc

tails : {A : Type 0} (x y : A) (xs ys : List A) → x ∷ xs ≡ y ∷ ys → xs ≡ ys
tails x y xs ys e = cc

joins : {A : Type 0} (x y : A) (xs ys : List A) → x ≡ y → xs ≡ ys → x ∷ xs ≡ y ∷ ys
joins x y xs ys e f = cc

pub places : {A : Type 0} (b : List A) (w : A) (a : List A) (c : List A) (v : A) (d : List A) → b ++ (w ∷ a) ≡ c ++ (v ∷ d) → Places b w c v
places [] w a [] v d e = Here refl (heads w v a d e)
places [] w a (x ∷ c) v d e = Sooner c (joins x w c c (sym (heads w x a (c ++ (v ∷ d)) e)) refl)
places (y ∷ b) w a [] v d e = Later b (joins y v b b (heads y v (b ++ (w ∷ a)) d e) refl)
places (y ∷ b) w a (x ∷ c) v d e =
    let first = heads y x (b ++ (w ∷ a)) (c ++ (v ∷ d)) e in
    elim (places b w a c v d (tails y x (b ++ (w ∷ a)) (c ++ (v ∷ d)) e)) [
      | Here p q ↦ Here (joins y x b c first p) q
      | Sooner rest p ↦ Sooner rest (joins x y c ((b ++ w ∷ []) ++ rest) (sym first) p)
      | Later rest p ↦ Later rest (joins y x b ((c ++ v ∷ []) ++ rest) first p)
    ]

pub split_front : {A : Type 0} (p q u m : List A) → u ++ m ≡ p ++ q → length p ≤ length u → (r : List A) × (u ≡ p ++ r) × (q ≡ r ++ m)
split_front [] q u m e h = (u, refl, sym e)
split_front (x ∷ p) q [] m e h = absurd (omega arith)
split_front (x ∷ p) q (y ∷ u) m e h =
    let s = split_front p q u m (tails y x (u ++ m) (p ++ q) e) (omega (arith, h)) in
    (s.0, joins y x u (p ++ s.0) (heads y x (u ++ m) (p ++ q) e) s.1, s.2)

pub one_last : {A : Type 0} (b : List A) (w : A) (c : List A) (v : A) → b ++ w ∷ [] ≡ c ++ v ∷ [] → (b ≡ c) × (w ≡ v)
one_last b w c v e =
    let same : length b + 1 ≡ length c + 1 = sym (length-append b (w ∷ [])) ∙ ap length e ∙ length-append c (v ∷ []) in
    elim (places b w [] c v [] e) [
      | Here p q ↦ (p, q)
      | Sooner rest p ↦ absurd (omega (arith, same, ap length p, length-append (b ++ w ∷ []) rest, length-append b (w ∷ [])))
      | Later rest p ↦ absurd (omega (arith, same, ap length p, length-append (c ++ v ∷ []) rest, length-append c (v ∷ [])))
    ]

-- The boxes of a front's lines in the tree: they stay those of the lines as lines join and leave and points are listed; their order is a walk; and the boxes that meet a box are those of the near lines.
use lib.IntN.{ℤ}
use lib.Signed.{◌≤ℤ◌, le_z}
use native.Mathlib.Omega.{arith}
use Rattle.std.specs.Prelude.{◌≡◌, ◌≤◌, ◌+◌, ◌-◌, ℕ, zero, suc, Bool, true, false, not, ◌&&◌, ◌||◌, nat_eq, List, [], ◌∷◌, ◌++◌, map, filter, length, drop, set, Option, Some, None, cond, refl, is_some, IsTrue}
use Rattle.std.specs.Int.{int_max, int_min}
use Rattle.std.specs.Option.{option_map, option_map_or}
use Rattle.std.specs.List.{AllByRecursion, IsDistinct, find, list_any, after_first, position_or_len}
use Rattle.std.proofs.Common.{ap, sym, ◌∙◌, subst}
use Rattle.std.proofs.lemmas.Int.{ints, clamps}
use Rattle.std.proofs.lemmas.List.{drop-map, get_or-set_other}
use Rattle.grid_geom.specs.declared.Point.{Point}
use Rattle.grid_geom.specs.declared.Bounds.{Bounds}
use Rattle.grid_geom.specs.declared.Edge.{Edge}
use Rattle.grid_geom.proofs.Booleans.{le_true, true_le}
use Rattle.wind_law.specs.Chains.{edge}
use Rattle.state_law.specs.State.{pair_edge, IsListed}
use Rattle.digital_tree.specs.declared.Entry.{Entry}
use Rattle.digital_tree.specs.Entries.{is_hit}
use Rattle.digital_tree.specs.Boxes.{does_meet as do_boxes_meet}
use Rattle.digital_tree.proofs.Lists.{all_inserted, all_left}
use Rattle.front_chain.specs.declared.side.Side.{Side}
use Rattle.front_chain.specs.Front.{IsWalk, line_at, does_reach, does_meet}
use Rattle.front_chain.specs.Tables.{side_at, lines_from}
use Rattle.front_chain.specs.Boxes.{box_of, line_of, has_line, IsEntered, IsLeft, HaveOneEach, AreBoxed}
use Rattle.front_chain.proofs.Entries.{none_pass, single_entered, single_left, none_there, is_there, all_others}
use Rattle.front_chain.proofs.Lines.{eq_self, ends, line_numbered, no_line_zero, past_end}
use Rattle.front_chain.proofs.Places.{point_old}
use Rattle.front_chain.proofs.Tabled.{push_new}

-- ---- the box of an edge is met where the edge's span is reached both ways
or_of : (a b c : Bool) → (a ≡ true → c ≡ true) → (b ≡ true → c ≡ true) → (a ≡ false → c ≡ true → b ≡ true) → c ≡ (a || b)
or_of true b c h k l = h refl
or_of false true c h k l = k refl
or_of false false true h k l = sym (l refl refl)
or_of false false false h k l = refl

le_untrue : (a b c : ℤ) → le_z a b ≡ false → int_min a c ≤ℤ b → c ≤ℤ b
le_untrue a b c e h = grind (arith, ints, clamps)

most_untrue : (a b c : ℤ) → le_z b a ≡ false → b ≤ℤ int_max a c → b ≤ℤ c
most_untrue a b c e h = grind (arith, ints, clamps)

least_reaches : (u w g : ℤ) → le_z (int_min u w) g ≡ (le_z u g || le_z w g)
least_reaches u w g = or_of (le_z u g) (le_z w g) (le_z (int_min u w) g)
    (λ e. let h = le_true u g e in true_le (int_min u w) g (omega (arith, ints, clamps)))
    (λ e. let h = le_true w g e in true_le (int_min u w) g (omega (arith, ints, clamps)))
    (λ e f. true_le w g (le_untrue u g w e (le_true (int_min u w) g f)))

most_reaches : (u w l : ℤ) → le_z l (int_max u w) ≡ (le_z l u || le_z l w)
most_reaches u w l = or_of (le_z l u) (le_z l w) (le_z l (int_max u w))
    (λ e. let h = le_true l u e in true_le l (int_max u w) (omega (arith, ints, clamps)))
    (λ e. let h = le_true l w e in true_le l (int_max u w) (omega (arith, ints, clamps)))
    (λ e f. true_le l w (most_untrue u l w e (le_true l (int_max u w) f)))

and_joined : (a b c : Bool) → (a && b && c) ≡ (a && (b && c))
and_joined true b c = refl
and_joined false b c = refl

box_met : (e : Edge) (b : Bounds) → do_boxes_meet (box_of e) b ≡ does_meet b e
box_met e b =
    (λ i. least_reaches e.a.x e.b.x b.hi.x i && most_reaches e.a.x e.b.x b.lo.x i && least_reaches e.a.y e.b.y b.hi.y i && most_reaches e.a.y e.b.y b.lo.y i)
    ∙ and_joined (does_reach b.lo.x b.hi.x e.a.x e.b.x) (le_z e.a.y b.hi.y || le_z e.b.y b.hi.y) (le_z b.lo.y e.a.y || le_z b.lo.y e.b.y)

-- ---- lines by their numbers, when one joins and when one leaves
-- the line with number n comes to those that are there, or goes
pub record Joins (n : ℕ) (line : ℕ × ℕ) (ends now : ℕ → Option (ℕ × ℕ)) : Type 0 where
  pub absent : ends n ≡ None
  pub here : now n ≡ Some line
  pub others : (m : ℕ) → nat_eq n m ≡ false → now m ≡ ends m

pub record Leaves (n : ℕ) (ends now : ℕ → Option (ℕ × ℕ)) : Type 0 where
  pub here : now n ≡ None
  pub others : (m : ℕ) → nat_eq n m ≡ false → now m ≡ ends m

push_other : (made : List (Option Side)) (t : Side) (i : ℕ) → nat_eq (length made) i ≡ false → side_at (made ++ Some t ∷ []) i ≡ side_at made i
push_other [] t zero e = absurd cc
push_other [] t (suc i) e = refl
push_other (m ∷ made) t zero e = refl
push_other (m ∷ made) t (suc i) e = push_other made t i (one_less (length made) i e)
  where
    one_less : (k i : ℕ) → nat_eq (suc k) (suc i) ≡ false → nat_eq k i ≡ false
    one_less k i e = grind arith

set_here : (made : List (Option Side)) (i : ℕ) → side_at (set made i None) i ≡ None
set_here [] i = refl
set_here (m ∷ made) zero = refl
set_here (m ∷ made) (suc i) = set_here made i

less : (i : ℕ) → suc i - 1 ≡ i
less i = omega arith

pub joins : (made : List (Option Side)) (t : Side) (n : ℕ) → n ≡ length made + 1 → Joins n (ends t) (line_at (lines_from 1 made)) (line_at (lines_from 1 (made ++ Some t ∷ [])))
joins made t n is = record {
  absent = line_numbered made n (omega (arith, is)) ∙ ap (option_map ends) (past_end made (n - 1) (omega (arith, is)));
  here = line_numbered (made ++ Some t ∷ []) n (omega (arith, is)) ∙ ap (option_map ends) (ap (side_at (made ++ Some t ∷ [])) place ∙ push_new made t);
  others = other;
}
  where
    place : n - 1 ≡ length made
    place = omega (arith, is)

    apart : (n i k : ℕ) → n ≡ k + 1 → nat_eq n (suc i) ≡ false → nat_eq k i ≡ false
    apart n i k e o = grind arith

    other : (m : ℕ) → nat_eq n m ≡ false → line_at (lines_from 1 (made ++ Some t ∷ [])) m ≡ line_at (lines_from 1 made) m
    other zero o = no_line_zero (made ++ Some t ∷ []) ∙ sym (no_line_zero made)
    other (suc i) o = line_numbered (made ++ Some t ∷ []) (suc i) (omega arith) ∙ ap (λ k. option_map ends (side_at (made ++ Some t ∷ []) k)) (less i)
        ∙ ap (option_map ends) (push_other made t i (apart n i (length made) is o))
        ∙ sym (line_numbered made (suc i) (omega arith) ∙ ap (λ k. option_map ends (side_at made k)) (less i))

pub leaves : (made : List (Option Side)) (n : ℕ) → 1 ≤ n → Leaves n (line_at (lines_from 1 made)) (line_at (lines_from 1 (set made (n - 1) None)))
leaves made n l = record {
  here = line_numbered (set made (n - 1) None) n l ∙ ap (option_map ends) (set_here made (n - 1));
  others = other;
}
  where
    apart : (n i : ℕ) → 1 ≤ n → nat_eq n (suc i) ≡ false → (i ≡ n - 1 → ⊥)
    apart n i l o e = grind arith

    other : (m : ℕ) → nat_eq n m ≡ false → line_at (lines_from 1 (set made (n - 1) None)) m ≡ line_at (lines_from 1 made) m
    other zero o = no_line_zero (set made (n - 1) None) ∙ sym (no_line_zero made)
    other (suc i) o = line_numbered (set made (n - 1) None) (suc i) (omega arith) ∙ ap (λ k. option_map ends (side_at (set made (n - 1) None) k)) (less i)
        ∙ ap (option_map ends) (get_or-set_other made (n - 1) i None None (apart n i l o))
        ∙ sym (line_numbered made (suc i) (omega arith) ∙ ap (λ k. option_map ends (side_at made k)) (less i))

-- ---- the entries stay those of the lines
-- the box of the entry's line, at the points, is the entry's
abbrev HasBox : List Point → (ℕ → Option (ℕ × ℕ)) → Entry ℕ → Type 0
HasBox points ends e = option_map (λ line. box_of (pair_edge points line)) (ends (line_of e)) ≡ Some e.bounds

module _ {points : List Point} {ends : ℕ → Option (ℕ × ℕ)} {es : List (Entry ℕ)} (h : AreBoxed points ends es) where
  pub boxed_entered : {n : ℕ} {line : ℕ × ℕ} {now : ℕ → Option (ℕ × ℕ)} {b : Bounds} {more : List (Entry ℕ)} → IsEntered n b es more → Joins n line ends now → b ≡ box_of (pair_edge points line) → AreBoxed points now more
  boxed_entered {n} {line} {now} {b} {more} i j is = record {
    single = single_entered h.single i (record { absent = ap is_some j.absent; now = ap is_some j.here; others = λ m o. ap is_some (j.others m o) });
    boxed = all_inserted (HasBox points now) i.put (ap (option_map (λ line. box_of (pair_edge points line))) j.here ∙ ap Some (sym is))
        (all_others (HasBox points ends) (HasBox points now) n es (λ e o f. ap (option_map (λ line. box_of (pair_edge points line))) (j.others (line_of e) o) ∙ f) (none_there h.single n (ap is_some j.absent)) h.boxed);
  }

  pub boxed_left : {n : ℕ} {now : ℕ → Option (ℕ × ℕ)} {rest : List (Entry ℕ)} → IsLeft n es rest → Leaves n ends now → AreBoxed points now rest
  boxed_left {n} {now} {rest} i j = record {
    single = single;
    boxed = all_others (HasBox points ends) (HasBox points now) n rest (λ e o f. ap (option_map (λ line. box_of (pair_edge points line))) (j.others (line_of e) o) ∙ f) (none_there single n (ap is_some j.here)) (all_left (HasBox points ends) i.gone h.boxed);
  }
    where
      single : HaveOneEach (λ m. is_some (now m)) rest
      single = single_left h.single i (record { now = ap is_some j.here; others = λ m o. ap is_some (j.others m o) })

  pub boxed_listed : (p : Point) → ((n : ℕ) (line : ℕ × ℕ) → ends n ≡ Some line → IsListed (length points) line.0 × IsListed (length points) line.1) → AreBoxed (points ++ p ∷ []) ends es
  boxed_listed p listed = record { single = h.single; boxed = all es h.boxed }
    where
      by : (e : Entry ℕ) (o : Option (ℕ × ℕ)) → ends (line_of e) ≡ o → option_map (λ line. box_of (pair_edge points line)) o ≡ Some e.bounds → option_map (λ line. box_of (pair_edge (points ++ p ∷ []) line)) o ≡ Some e.bounds
      by e None is f = absurd cc
      by e (Some line) is f = let l = listed (line_of e) line is in (λ i. Some (box_of (edge (point_old points p line.0 l.0 i) (point_old points p line.1 l.1 i)))) ∙ f

      all : (es : List (Entry ℕ)) → AllByRecursion (HasBox points ends) es → AllByRecursion (HasBox (points ++ p ∷ []) ends) es
      all [] f = tt
      all (e ∷ es) f = (by e (ends (line_of e)) refl f.0, all es f.1)

-- the same with the points, lines and entries as they were kept
pub boxed_kept : {points others : List Point} {made rows : List (Option Side)} {es more : List (Entry ℕ)} → AreBoxed points (line_at (lines_from 1 made)) es → others ≡ points → rows ≡ made → more ≡ es → AreBoxed others (line_at (lines_from 1 rows)) more
boxed_kept {points} {others} {made} {rows} {es} {more} h e f g =
    subst (λ ps. AreBoxed ps (line_at (lines_from 1 rows)) more) (sym e)
    (subst (λ ms. AreBoxed points (line_at (lines_from 1 ms)) more) (sym f)
    (subst (λ (l : List (Entry ℕ)). AreBoxed points (line_at (lines_from 1 made)) l) (sym g) h))

-- ---- their order is a walk
any_mapped : (n : ℕ) (es : List (Entry ℕ)) → list_any (nat_eq n) (map line_of es) ≡ list_any (has_line n) es
any_mapped n [] = refl
any_mapped n (e ∷ es) = ap (λ (t : Bool). nat_eq n (line_of e) || t) (any_mapped n es)

other_lines : (n : ℕ) (es : List (Entry ℕ)) → AllByRecursion (λ e. has_line n e ≡ false) es → AllByRecursion (λ m. nat_eq n m ≡ false) (map line_of es)
other_lines n [] h = tt
other_lines n (e ∷ es) h = (h.0, other_lines n es h.1)

few_distinct : (es : List (Entry ℕ)) → ((n : ℕ) → length (filter (has_line n) es) ≤ 1) → IsDistinct nat_eq (map line_of es)
unfolding IsDistinct
few_distinct [] h = tt
few_distinct (e ∷ es) h = (other_lines (line_of e) es (none_pass (has_line (line_of e)) es (here (nat_eq (line_of e) (line_of e)) (eq_self (line_of e)) (h (line_of e)))), few_distinct es (λ n. less_few (has_line n e) (filter (has_line n) es) (h n)))
  where
    here : (t : Bool) → t ≡ true → length (cond t (e ∷ filter (has_line (line_of e)) es) (filter (has_line (line_of e)) es)) ≤ 1 → length (filter (has_line (line_of e)) es) ≡ 0
    here true is l = omega (arith, l)
    here false is l = absurd cc

    less_few : (t : Bool) (rest : List (Entry ℕ)) → length (cond t (e ∷ rest) rest) ≤ 1 → length rest ≤ 1
    less_few true rest l = omega (arith, l)
    less_few false rest l = l

pub boxes_walk : {points : List Point} {lines : List (ℕ × ℕ × ℕ)} {es : List (Entry ℕ)} → AreBoxed points (line_at lines) es → IsWalk (map line_of es) lines
boxes_walk {points} {lines} {es} h = record {
  each = λ n. any_mapped n es ∙ is_there h.single n;
  once = few_distinct es (λ n. subst (λ (k : ℕ). k ≤ 1) (sym (h.single.count n)) (at_most (is_some (line_at lines n))));
}
  where
    at_most : (t : Bool) → cond {A = ℕ} t 1 0 ≤ 1
    at_most true = omega arith
    at_most false = omega arith

-- ---- the boxes that are met are those of the near lines
-- whether the number is that of a line whose box meets b
abbrev is_near_by : List Point → (ℕ → Option (ℕ × ℕ)) → Bounds → ℕ → Bool
is_near_by points ends b n = option_map_or (λ line. does_meet b (pair_edge points line)) (ends n) false

all_behind : (P : Entry ℕ → Type 0) (i : ℕ) (es : List (Entry ℕ)) → AllByRecursion P es → AllByRecursion P (drop i es)
all_behind P zero es h = h
all_behind P (suc i) [] h = tt
all_behind P (suc i) (e ∷ es) h = all_behind P i es h.1

place_mapped : (n : ℕ) (es : List (Entry ℕ)) → position_or_len (has_line n) es ≡ position_or_len (nat_eq n) (map line_of es)
place_mapped n [] = refl
place_mapped n (e ∷ es) = ap (λ (k : ℕ). cond (not (nat_eq n (line_of e))) (1 + k) 0) (place_mapped n es)

-- entries that are hit exactly where their lines pass a test
near_found : (b : Bounds) (near : ℕ → Bool) (es : List (Entry ℕ)) → AllByRecursion (λ e. is_hit b e ≡ near (line_of e)) es → option_map line_of (find (is_hit b) es) ≡ find near (map line_of es)
near_found b near [] h = refl
near_found b near (e ∷ es) h = by (is_hit b e) (near (line_of e)) h.0 (near_found b near es h.1)
  where
    by : (t u : Bool) → t ≡ u → option_map line_of (find (is_hit b) es) ≡ find near (map line_of es) → option_map line_of (cond t (Some e) (find (is_hit b) es)) ≡ cond u (Some (line_of e)) (find near (map line_of es))
    by true true i k = refl
    by false false i k = k
    by true false i k = absurd cc
    by false true i k = absurd cc

near_kept : (b : Bounds) (near : ℕ → Bool) (es : List (Entry ℕ)) → AllByRecursion (λ e. is_hit b e ≡ near (line_of e)) es → map line_of (filter (is_hit b) es) ≡ filter near (map line_of es)
near_kept b near [] h = refl
near_kept b near (e ∷ es) h = by (is_hit b e) (near (line_of e)) h.0 (near_kept b near es h.1)
  where
    by : (t u : Bool) → t ≡ u → map line_of (filter (is_hit b) es) ≡ filter near (map line_of es) → map line_of (cond t (e ∷ filter (is_hit b) es) (filter (is_hit b) es)) ≡ cond u (line_of e ∷ filter near (map line_of es)) (filter near (map line_of es))
    by true true i k = ap (λ (ns : List ℕ). line_of e ∷ ns) k
    by false false i k = k
    by true false i k = absurd cc
    by false true i k = absurd cc

module _ (points : List Point) (ends : ℕ → Option (ℕ × ℕ)) (b : Bounds) where
  hit_near : (e : Entry ℕ) (o : Option (ℕ × ℕ)) → option_map (λ line. box_of (pair_edge points line)) o ≡ Some e.bounds → is_hit b e ≡ option_map_or (λ line. does_meet b (pair_edge points line)) o false
  hit_near e None f = absurd cc
  hit_near e (Some line) f = ap (λ box. do_boxes_meet box b) (sym (same (box_of (pair_edge points line)) e.bounds f)) ∙ box_met (pair_edge points line) b
    where
      same : (a c : Bounds) → Some a ≡ Some c → a ≡ c
      same a c f = cc

  hits_near : (es : List (Entry ℕ)) → AllByRecursion (HasBox points ends) es → AllByRecursion (λ e. is_hit b e ≡ is_near_by points ends b (line_of e)) es
  hits_near [] h = tt
  hits_near (e ∷ es) h = (hit_near e (ends (line_of e)) h.0, hits_near es h.1)

module _ {points : List Point} {ends : ℕ → Option (ℕ × ℕ)} {es : List (Entry ℕ)} (b : Bounds) (h : AreBoxed points ends es) where
  pub first_near : option_map line_of (find (is_hit b) es) ≡ find (is_near_by points ends b) (map line_of es)
  first_near = near_found b (is_near_by points ends b) es (hits_near points ends b es h.boxed)

  pub near_lines : map line_of (filter (is_hit b) es) ≡ filter (is_near_by points ends b) (map line_of es)
  near_lines = near_kept b (is_near_by points ends b) es (hits_near points ends b es h.boxed)

  pub next_near : (n : ℕ) → option_map line_of (find (is_hit b) (after_first (has_line n) es)) ≡ find (is_near_by points ends b) (after_first (nat_eq n) (map line_of es))
  next_near n =
      let i = position_or_len (has_line n) es + 1 in
      near_found b (is_near_by points ends b) (drop i es) (all_behind (λ e. is_hit b e ≡ is_near_by points ends b (line_of e)) i es (hits_near points ends b es h.boxed))
      ∙ ap (find (is_near_by points ends b)) (sym (drop-map line_of i es) ∙ ap (λ (k : ℕ). drop (k + 1) (map line_of es)) (place_mapped n es))

  -- a near line has an entry
  pub near_there : (n : ℕ) → IsTrue (is_near_by points ends b n) → list_any (has_line n) es ≡ true
  near_there n near = is_there h.single n ∙ by (ends n) near
    where
      by : (o : Option (ℕ × ℕ)) → IsTrue (option_map_or (λ line. does_meet b (pair_edge points line)) o false) → is_some o ≡ true
      by None e = absurd cc
      by (Some line) e = refl

-- The elements of an attempt by numbers, with new points listed after the front's own, may follow one another exactly where the elements by places may be glued.
use Prim.Native.Nat.{ℕ, zero, suc, ◌+◌, ◌-◌, ◌<◌}
use lib.IntN.{pos}
use native.Mathlib.Omega.{arith}
use mathlib.Core.Path.{◌≡◌, refl, sym, subst, ap, ◌∙◌}
use mathlib.Core.Bool.{true≢false}
use mathlib.Core.List.{List, [], ◌∷◌, ◌++◌}
use Rattle.std.specs.Prelude.{Bool, true, false, not, ◌&&◌, ◌||◌, ◌↔◌, is_none, Option, None, Some, slice_index_or, length, map}
use Rattle.std.specs.List.{AllByRecursion, IsDistinct, list_any}
use Rattle.std.proofs.lemmas.List.{get_or-map, length-map, length-append, append_assoc, map-append, append-nil}
use Rattle.grid_geom.specs.declared.Point.{Point}
use Rattle.grid_geom.specs.declared.Edge.{Edge}
use Rattle.grid_geom.specs.Closed.{same_point}
use Rattle.rule_reader.specs.Normal.{Names}
use Rattle.state_law.specs.State.{State, point_at, pair_edge, front_edges, corners_of, glued, IsListed, IsNumbered}
use Rattle.state_law.specs.Gluing.{MayAllBeGlued}
use Rattle.state_law.proofs.Numbers.{glued_edges, glued_numbered}
use Rattle.front_chain.specs.Front.{FrontState, IsFrontState, number_of}
use Rattle.front_chain.proofs.Places.{unlisted, absent_place, distinct_push}
use Rattle.admission.specs.Around.{AreListed}
use Rattle.admission.specs.Admission.{entered, edges_at, MayFollow}
use Rattle.rule_match.specs.Candidate.{nth}
use Rattle.rule_match.specs.Applied.{numbers_from, are_new, do_differ}
use Rattle.rule_match.proofs.Prefixes.{both}

abbrev origin : Point
origin = record { x = pos 0; y = pos 0 }

clash : {A : Type 0} → false ≡ true → A
clash h = absurd (true≢false (sym h))

-- ---- places by numbers, with more points listed
at_left : (ps qs : List Point) (k : ℕ) (d : Point) → k < length ps → slice_index_or (ps ++ qs) k d ≡ slice_index_or ps k d
at_left [] qs k d h = absurd (omega (arith, h))
at_left (p ∷ ps) qs zero d h = refl
at_left (p ∷ ps) qs (suc k) d h = at_left ps qs k d (omega (arith, h))

at_next : (ps : List Point) (q : Point) (qs : List Point) (k : ℕ) (d : Point) → k ≡ length ps → slice_index_or (ps ++ q ∷ qs) k d ≡ q
at_next [] q qs zero d e = refl
at_next [] q qs (suc k) d e = absurd (omega (arith, e))
at_next (p ∷ ps) q qs zero d e = absurd (omega (arith, e))
at_next (p ∷ ps) q qs (suc k) d e = at_next ps q qs k d (omega (arith, e))

pub listed_same : (ps qs : List Point) (n : ℕ) → IsListed (length ps) n → point_at (ps ++ qs) n ≡ point_at ps n
listed_same ps qs n h = at_left ps qs (n - 1) origin (omega (arith, h.0, h.1))

all_same : (ps qs : List Point) (ns : List ℕ) → AllByRecursion (IsListed (length ps)) ns → map (point_at (ps ++ qs)) ns ≡ map (point_at ps) ns
all_same ps qs [] h = refl
all_same ps qs (n ∷ ns) h = ap (λ (p : Point). p ∷ map (point_at (ps ++ qs)) ns) (listed_same ps qs n h.0) ∙ ap (λ (rs : List Point). point_at ps n ∷ rs) (all_same ps qs ns h.1)

longer : (ps : List Point) (q : Point) → length (ps ++ q ∷ []) ≡ length ps + 1
longer [] q = refl
longer (p ∷ ps) q = omega (arith, longer ps q)

-- new points by their numbers
new_same : (ps made : List Point) (n : ℕ) → n ≡ length ps → map (point_at (ps ++ made)) (numbers_from n made) ≡ made
new_same ps [] n e = refl
new_same ps (q ∷ qs) n e =
    ap (λ (p : Point). p ∷ map (point_at (ps ++ q ∷ qs)) (numbers_from (n + 1) qs)) (at_next ps q qs (n + 1 - 1) origin (omega (arith, e)))
    ∙ ap (λ (rs : List Point). q ∷ rs) (ap (λ (z : List Point). map (point_at z) (numbers_from (n + 1) qs)) (sym (append_assoc ps (q ∷ []) qs)) ∙ new_same (ps ++ q ∷ []) qs (n + 1) (omega (arith, e, longer ps q)))

-- ---- the numbers of an attempt's points
module _ (points made : List Point) (ns : List ℕ) (h : AllByRecursion (IsListed (length points)) ns) where
  abbrev all_numbers : List ℕ
  all_numbers = ns ++ numbers_from (length points) made

  abbrev all_places : List Point
  all_places = map (point_at points) ns ++ made

  places_same : map (point_at (points ++ made)) all_numbers ≡ all_places
  places_same = map-append (point_at (points ++ made)) ns (numbers_from (length points) made) ∙ ap (λ (ps : List Point). ps ++ map (point_at (points ++ made)) (numbers_from (length points) made)) (all_same points made ns h) ∙ ap (λ (ps : List Point). map (point_at points) ns ++ ps) (new_same points made (length points) refl)

  counted : length all_numbers ≡ length ns + length made
  counted = length-append ns (numbers_from (length points) made) ∙ ap (λ (n : ℕ). length ns + n) (by (length points) made)
    where
      by : (n : ℕ) (qs : List Point) → length (numbers_from n qs) ≡ length qs
      by n [] = refl
      by n (q ∷ qs) = ap suc (by (n + 1) qs)

  -- the place of a rule's point
  place_same : (k : ℕ) → Names (length ns + length made) k → point_at (points ++ made) (nth all_numbers k) ≡ point_at all_places k
  place_same k r = sym (get_or-map (point_at (points ++ made)) all_numbers (k - 1) 0 origin (omega (arith, counted, r.0, r.1))) ∙ ap (λ (ps : List Point). slice_index_or ps (k - 1) origin) places_same

  element_same : (e : List ℕ) → AllByRecursion (Names (length ns + length made)) e → corners_of (points ++ made) (map (nth all_numbers) e) ≡ corners_of all_places e
  element_same [] r = refl
  element_same (k ∷ e) r = ap (λ (p : Point). p ∷ corners_of (points ++ made) (map (nth all_numbers) e)) (place_same k r.0) ∙ ap (λ (ps : List Point). point_at all_places k ∷ ps) (element_same e r.1)

  abbrev IsElement : List ℕ → Type 0
  IsElement e = (length e ≡ 3) × AllByRecursion (Names (length ns + length made)) e

  pub elements_same : (es : List (List ℕ)) → AllByRecursion IsElement es → map (corners_of (points ++ made)) (map (map (nth all_numbers)) es) ≡ map (corners_of all_places) es
  elements_same [] r = refl
  elements_same (e ∷ es) r = ap (λ (c : List Point). c ∷ map (corners_of (points ++ made)) (map (map (nth all_numbers)) es)) (element_same e r.0.1) ∙ ap (λ (cs : List (List Point)). corners_of all_places e ∷ cs) (elements_same es r.1)

  -- each number is listed
  abbrev AreIn : List ℕ → Type 0
  AreIn ms = AllByRecursion (IsListed (length (points ++ made))) ms

  total : length (points ++ made) ≡ length points + length made
  total = length-append points made

  old_listed : (ms : List ℕ) → AllByRecursion (IsListed (length points)) ms → AreIn ms
  old_listed [] a = tt
  old_listed (m ∷ ms) a = ((a.0.0, omega (arith, a.0.1, total)), old_listed ms a.1)

  new_listed : (qs : List Point) (n : ℕ) → n + length qs ≡ length points + length made → AreIn (numbers_from n qs)
  new_listed [] n e = tt
  new_listed (q ∷ qs) n e = ((omega arith, omega (arith, e, total)), new_listed qs (n + 1) (omega (arith, e)))

  joined : (xs ys : List ℕ) → AreIn xs → AreIn ys → AreIn (xs ++ ys)
  joined [] ys a b = b
  joined (x ∷ xs) ys a b = (a.0, joined xs ys a.1 b)

  numbers_listed : AreIn all_numbers
  numbers_listed = joined ns (numbers_from (length points) made) (old_listed ns h) (new_listed made (length points) refl)

  listed_there : (xs : List ℕ) (k : ℕ) → AreIn xs → k < length xs → IsListed (length (points ++ made)) (slice_index_or xs k 0)
  listed_there [] k a l = absurd (omega (arith, l))
  listed_there (x ∷ xs) zero a l = a.0
  listed_there (x ∷ xs) (suc k) a l = listed_there xs k a.1 (omega (arith, l))

  element_listed : (e : List ℕ) → AllByRecursion (Names (length ns + length made)) e → AreListed (length (points ++ made)) (map (nth all_numbers) e)
  element_listed [] r = tt
  element_listed (k ∷ e) r = (listed_there all_numbers (k - 1) numbers_listed (omega (arith, counted, r.0.0, r.0.1)), element_listed e r.1)

  pub elements_listed : (es : List (List ℕ)) → AllByRecursion IsElement es → AllByRecursion (AreListed (length (points ++ made))) (map (map (nth all_numbers)) es)
  elements_listed [] r = tt
  elements_listed (e ∷ es) r = (element_listed e r.0.1, elements_listed es r.1)

  pub elements_three : (es : List (List ℕ)) → AllByRecursion IsElement es → AllByRecursion (λ e. length e ≡ 3) (map (map (nth all_numbers)) es)
  elements_three [] r = tt
  elements_three (e ∷ es) r = (length-map e (nth all_numbers) ∙ r.0.0, elements_three es r.1)

-- ---- one after another
follow_there : (st : State) (es : List (List ℕ)) → IsNumbered st → AllByRecursion (AreListed (length st.points)) es → MayFollow st es → MayAllBeGlued (map (corners_of st.points) es) (edges_at st)
follow_there st [] n a m = tt
follow_there st (e ∷ es) n a m = (m.0, subst (MayAllBeGlued (map (corners_of st.points) es)) (glued_edges st e n a.0) (follow_there (glued st e) es (glued_numbered st e n a.0) a.1 m.1))

follow_back : (st : State) (es : List (List ℕ)) → IsNumbered st → AllByRecursion (AreListed (length st.points)) es → MayAllBeGlued (map (corners_of st.points) es) (edges_at st) → MayFollow st es
follow_back st [] n a m = tt
follow_back st (e ∷ es) n a m = (m.0, follow_back (glued st e) es (glued_numbered st e n a.0) a.1 (subst (MayAllBeGlued (map (corners_of st.points) es)) (sym (glued_edges st e n a.0)) m.1))

-- ---- new points at new places
turned_same : (p q : Point) → same_point p q ≡ false → same_point q p ≡ false
turned_same p q h = grind (arith)

any_append : (test : Point → Bool) (xs : List Point) (y : Point) → list_any test xs ≡ false → test y ≡ false → list_any test (xs ++ y ∷ []) ≡ false
any_append test [] y h k = ap (λ (b : Bool). b || false) k
any_append test (x ∷ xs) y h k = neither (test x) (list_any test (xs ++ y ∷ [])) (first (test x) (list_any test xs) h) (any_append test xs y (later (test x) (list_any test xs) h) k)
  where
    neither : (a b : Bool) → a ≡ false → b ≡ false → (a || b) ≡ false
    neither a b e f = ap (λ (z : Bool). z || b) e ∙ f

    first : (a b : Bool) → (a || b) ≡ false → a ≡ false
    first true b e = absurd (true≢false e)
    first false b e = refl

    later : (a b : Bool) → (a || b) ≡ false → b ≡ false
    later true b e = absurd (true≢false e)
    later false b e = e

is_none_of : (o : Option ℕ) → is_none o ≡ true → o ≡ None
is_none_of None h = refl
is_none_of (Some n) h = clash h

none_is : (o : Option ℕ) → o ≡ None → is_none o ≡ true
none_is o h = ap is_none h

not_any : (b : Bool) → not b ≡ true → b ≡ false
not_any true h = clash h
not_any false h = refl

still_new : (points : List Point) (q : Point) (ps : List Point) → list_any (same_point q) ps ≡ false → are_new points ps ≡ true → are_new (points ++ q ∷ []) ps ≡ true
still_new points q [] d a = refl
still_new points q (p ∷ ps) d a =
    let g = both (is_none (number_of points p)) (are_new points ps) a in
    pair (is_none (number_of (points ++ q ∷ []) p)) (are_new (points ++ q ∷ []) ps)
    (none_is (number_of (points ++ q ∷ []) p) (absent_place p (points ++ q ∷ []) (any_append (same_point p) points q (unlisted p points (is_none_of (number_of points p) g.0)) (turned_same q p (first (same_point q p) (list_any (same_point q) ps) d)))))
    (still_new points q ps (later (same_point q p) (list_any (same_point q) ps) d) g.1)
  where
    pair : (a b : Bool) → a ≡ true → b ≡ true → (a && b) ≡ true
    pair a b h k = ap (λ c. c && b) h ∙ k

    first : (a b : Bool) → (a || b) ≡ false → a ≡ false
    first true b e = absurd (true≢false e)
    first false b e = refl

    later : (a b : Bool) → (a || b) ≡ false → b ≡ false
    later true b e = absurd (true≢false e)
    later false b e = e

pub all_distinct : (points made : List Point) → IsDistinct same_point points → are_new points made ≡ true → do_differ made ≡ true → IsDistinct same_point (points ++ made)
all_distinct points [] i a d = subst (IsDistinct same_point) (sym (append-nil points)) i
all_distinct points (q ∷ qs) i a d =
    let g = both (is_none (number_of points q)) (are_new points qs) a in
    let k = both (not (list_any (same_point q) qs)) (do_differ qs) d in
    subst (IsDistinct same_point) (append_assoc points (q ∷ []) qs)
    (all_distinct (points ++ q ∷ []) qs (distinct_push points q i (is_none_of (number_of points q) g.0)) (still_new points q qs (not_any (list_any (same_point q) qs) k.0) g.1) k.1)

-- ---- the front with new points listed
pub edges_same : (points made : List Point) (lines : List (ℕ × ℕ × ℕ)) → AllByRecursion (λ line. IsListed (length points) line.1 × IsListed (length points) line.2) lines → front_edges (points ++ made) lines ≡ front_edges points lines
edges_same points made [] h = refl
edges_same points made (line ∷ lines) h =
    ap (λ (p : Point). record { a = p; b = point_at (points ++ made) line.2 } ∷ front_edges (points ++ made) lines) (listed_same points made line.1 h.0.0)
    ∙ ap (λ (p : Point). record { a = point_at points line.1; b = p } ∷ front_edges (points ++ made) lines) (listed_same points made line.2 h.0.1)
    ∙ ap (λ (es : List Edge). pair_edge points (line.1, line.2) ∷ es) (edges_same points made lines h.1)

pub lines_still : (points made : List Point) (lines : List (ℕ × ℕ × ℕ)) → AllByRecursion (λ line. IsListed (length points) line.1 × IsListed (length points) line.2) lines → AllByRecursion (λ line. IsListed (length (points ++ made)) line.1 × IsListed (length (points ++ made)) line.2) lines
lines_still points made [] h = tt
lines_still points made (line ∷ lines) h = (((h.0.0.0, omega (arith, h.0.0.1, length-append points made)), (h.0.1.0, omega (arith, h.0.1.1, length-append points made))), lines_still points made lines h.1)

module _ (f : FrontState) (made : List Point) (ns : List ℕ) (s : IsFrontState f) (h : AllByRecursion (IsListed (length f.points)) ns) (new : are_new f.points made ≡ true) (differ : do_differ made ≡ true) where
  pub numbered : IsNumbered (entered f made)
  numbered = record { different = all_distinct f.points made s.numbered.different new differ; lines_listed = lines_still f.points made f.lines s.numbered.lines_listed }

  pub may_follow_is : (es : List (List ℕ)) → AllByRecursion (λ e. (length e ≡ 3) × AllByRecursion (Names (length ns + length made)) e) es →
      MayFollow (entered f made) (map (map (nth (ns ++ numbers_from (length f.points) made))) es) ↔ MayAllBeGlued (map (corners_of (map (point_at f.points) ns ++ made)) es) (front_edges f.points f.lines)
  may_follow_is es a =
      let listed = elements_listed f.points made ns h es a in
      let same = elements_same f.points made ns h es a in
      let edges = edges_same f.points made f.lines s.numbered.lines_listed in (
        λ m. subst (MayAllBeGlued (map (corners_of (map (point_at f.points) ns ++ made)) es)) edges (subst (λ (cs : List (List Point)). MayAllBeGlued cs (front_edges (f.points ++ made) f.lines)) same (follow_there (entered f made) _ numbered listed m)),
        λ m. follow_back (entered f made) _ numbered listed (subst (λ (cs : List (List Point)). MayAllBeGlued cs (front_edges (f.points ++ made) f.lines)) (sym same) (subst (MayAllBeGlued (map (corners_of (map (point_at f.points) ns ++ made)) es)) (sym edges) m)),
      )

-- Edges whose boxes don't meet don't tangle, so edges sorted by where they begin need few trials.
use Rattle.std.proofs.Common.{◌≡◌, ℕ, ◌+◌, ◌<◌, ◌≤◌, Bool, true, false, List, [], ◌∷◌, ◌++◌, length, map, take, slice_index_or, All, AllPairs, inl, inr, ◌⊎◌, sym, ◌∙◌, ap, subst, arith}
use lib.IntN.{ℤ, pos, ◌+ℤ◌, ◌*ℤ◌}
use lib.Signed.{◌<ℤ◌, ◌≤ℤ◌, lt_z}
use Rattle.std.proofs.lemmas.Int.{ints}
use Rattle.std.proofs.lemmas.Bool.{cases_lt}
use Rattle.std.proofs.lemmas.List.{get_or-map, length-map, get_or_default, map-append, take_more}
use Rattle.std.proofs.lemmas.List.Elements.{All-push}
use Rattle.std.proofs.lemmas.List.Sorted.{IsPermutation-sym}
use Rattle.std.specs.List.Sorted.{IsPermutation, IsNonDecreasingBy}
use Rattle.grid_geom.specs.declared.Point.{Point}
use Rattle.grid_geom.specs.declared.RatPoint.{RatPoint}
use Rattle.grid_geom.specs.declared.Edge.{Edge}
use Rattle.grid_geom.specs.declared.Bounds.{Bounds}
use Rattle.grid_geom.specs.Line.{whole}
use Rattle.grid_geom.specs.Plane.{IsRational, orient}
use Rattle.grid_geom.specs.Sides.{IsOnClosed, same_ends, swapped_ends, first_start, first_end, second_start, second_end, crossing}
use Rattle.grid_geom.specs.Sharing.{nothing}
use Rattle.grid_geom.specs.Boxes.{IsInBounds, DoBoundsMeet}
use Rattle.grid_geom.proofs.Signs.{nn_mul, np_mul}
use Rattle.grid_geom.proofs.MeetingBoxes.{sharing_meet}
use Rattle.grid_geom.proofs.SharedEnds.{open_closed, start_closed, finish_closed, tangle_shares}
use Rattle.grid_geom.specs.declared.TheConstants.{GRID}
use Rattle.geom_check.specs.declared.spans.Span.{Span}
use Rattle.geom_check.specs.Accepted.{AreApart, DoEdgesTangle}
use Rattle.geom_check.specs.Spans.{box_of, IsSpan, IsFreeOf}
use Rattle.geom_check.proofs.Reordered.{AllPairs-reordered}

-- ---- boxes
-- a point of an edge is in its box
in_box : (q : RatPoint) (e : Edge) → IsOnClosed q e.a e.b → IsInBounds q (box_of e)
in_box q e h = record { right_of_least = h.right_of_least; left_of_greatest = h.left_of_greatest; above_least = h.above_least; below_greatest = h.below_greatest }

shared_meet : (q : RatPoint) (e f : Edge) → IsRational q → IsOnClosed q e.a e.b → IsOnClosed q f.a f.b → DoBoundsMeet (box_of e) (box_of f)
shared_meet q e f k h j = sharing_meet (box_of e) (box_of f) (record { at = q; rational = k; in_first = in_box q e h; in_second = in_box q f j })

rational : (p : Point) → IsRational (whole p)
rational p = record { positive = omega (arith, ints) }

-- each of two edges that cross has two ends
different : (a b c d : Point) → (orient c d a *ℤ orient c d b) <ℤ pos 0 → ¬ (a ≡ b)
different a b c d h e = clash (orient c d a) (subst (λ (z : Point). (orient c d a *ℤ orient c d z) <ℤ pos 0) (sym e) h)
  where
    clash : (z : ℤ) → (z *ℤ z) <ℤ pos 0 → ⊥
    clash z h = elim (sides z) [ inl i ↦ omega (arith, ints, h, np_mul z z i i) | inr i ↦ omega (arith, ints, h, nn_mul z z i i) ]
      where
        sides : (z : ℤ) → (z ≤ℤ pos 0) ⊎ (pos 0 ≤ℤ z)
        sides z = grind (arith, ints)

-- edges whose boxes don't meet don't tangle
pub unmet_untangled : (e f : Edge) → ¬ (DoBoundsMeet (box_of e) (box_of f)) → ¬ (DoEdgesTangle e f)
unmet_untangled e f n (same_ends i j) = n (shared_meet (whole e.a) e f (rational e.a) (start_closed e.a e.b) (subst (λ (p : Point). IsOnClosed (whole p) f.a f.b) (sym i) (start_closed f.a f.b)))
unmet_untangled e f n (swapped_ends i j) = n (shared_meet (whole e.a) e f (rational e.a) (start_closed e.a e.b) (subst (λ (p : Point). IsOnClosed (whole p) f.a f.b) (sym i) (finish_closed f.a f.b)))
unmet_untangled e f n (first_start h) = n (shared_meet (whole e.a) e f (rational e.a) (start_closed e.a e.b) (open_closed e.a f.a f.b h))
unmet_untangled e f n (first_end h) = n (shared_meet (whole e.b) e f (rational e.b) (finish_closed e.a e.b) (open_closed e.b f.a f.b h))
unmet_untangled e f n (second_start h) = n (shared_meet (whole f.a) e f (rational f.a) (open_closed f.a e.a e.b h) (start_closed f.a f.b))
unmet_untangled e f n (second_end h) = n (shared_meet (whole f.b) e f (rational f.b) (open_closed f.b e.a e.b h) (finish_closed f.a f.b))
unmet_untangled e f n (crossing h) = tangle_shares e.a e.b f.a f.b (different e.a e.b f.a f.b h.ends_second) (different f.a f.b e.a e.b h.ends_first) (crossing h)
    (nothing (λ q s. n (shared_meet q e f s.rational s.on_first s.on_second)))

-- by the code's test of two boxes
pub not_met : (s t : Span) (r : Bool) → IsSpan s → IsSpan t → (r ≡ true → DoBoundsMeet s.bounds t.bounds) × (DoBoundsMeet s.bounds t.bounds → r ≡ true) → r ≡ false → ¬ (DoEdgesTangle s.edge t.edge)
not_met s t r h j test f = unmet_untangled s.edge t.edge (λ m. let e : r ≡ true = test.1 (subst (λ (b : Bounds). DoBoundsMeet b t.bounds) (sym h.box) (subst (λ (b : Bounds). DoBoundsMeet (box_of s.edge) b) (sym j.box) m)) in cc)

-- the same the other way round
pub tangle_back : (e f : Edge) → DoEdgesTangle e f → DoEdgesTangle f e
tangle_back e f (same_ends i j) = same_ends (sym i) (sym j)
tangle_back e f (swapped_ends i j) = swapped_ends (sym j) (sym i)
tangle_back e f (first_start h) = second_start h
tangle_back e f (first_end h) = second_end h
tangle_back e f (second_start h) = first_start h
tangle_back e f (second_end h) = first_end h
tangle_back e f (crossing h) = crossing (record { ends_first = h.ends_second; ends_second = h.ends_first })

-- ---- sorted
-- what begins right of an edge's end doesn't tangle with it
pub beyond : (s t : Span) → IsSpan s → IsSpan t → s.bounds.hi.x <ℤ t.bounds.lo.x → ¬ (DoEdgesTangle s.edge t.edge)
beyond s t h j l = unmet_untangled s.edge t.edge (λ m. clash (box_of s.edge).hi.x (box_of t.edge).lo.x (subst (λ b. b.hi.x <ℤ (box_of t.edge).lo.x) h.box (subst (λ b. s.bounds.hi.x <ℤ b.lo.x) j.box l)) m.second_column)
  where
    clash : (y z : ℤ) → y <ℤ z → z ≤ℤ y → ⊥
    clash y z h j = omega (arith, ints)

-- and so for all that begin later still
pub free_from : (spans : List Span) (i j : ℕ) (d e : Span) → All IsSpan spans → IsNonDecreasingBy (λ s. s.left) spans → i < j → j < length spans → lt_z (slice_index_or spans i d).bounds.hi.x (slice_index_or spans j e).bounds.lo.x ≡ true
    → IsFreeOf spans i j → IsFreeOf spans i (length spans)
free_from spans i j d e all sorted h k l before m f n o = elim (cases_lt m j) [
  | inl p ↦ before m f n p
  | inr p ↦ beyond (slice_index_or spans i f) (slice_index_or spans m f) (all i f (omega arith)) (all m f o)
      (later (slice_index_or spans i f).bounds.hi.x (slice_index_or spans j f).bounds.lo.x (slice_index_or spans m f).bounds.lo.x (slice_index_or spans j f).left (slice_index_or spans m f).left (all j f k).left (all m f o).left (sorted j m f p o)
      (subst (λ (s : Span). s.bounds.hi.x <ℤ (slice_index_or spans j f).bounds.lo.x) (get_or_default spans i d f (omega arith)) (subst (λ (s : Span). (slice_index_or spans i d).bounds.hi.x <ℤ s.bounds.lo.x) (get_or_default spans j e f k) (less (slice_index_or spans i d).bounds.hi.x (slice_index_or spans j e).bounds.lo.x l))))
]
  where
    less : (y z : ℤ) → lt_z y z ≡ true → y <ℤ z
    less y z e = grind (arith, ints)

    later : (hi lo lo' : ℤ) (left left' : ℕ) → pos left ≡ lo +ℤ GRID → pos left' ≡ lo' +ℤ GRID → left ≤ left' → hi <ℤ lo → hi <ℤ lo'
    later hi lo lo' left left' e f h j = omega (arith, ints)

-- one more edge with which it doesn't tangle
pub free_next : (spans : List Span) (i j : ℕ) (d e : Span) (r : Bool) → i < j → j < length spans → (r ≡ false → ¬ (DoEdgesTangle (slice_index_or spans i d).edge (slice_index_or spans j e).edge)) → r ≡ false → IsFreeOf spans i j → IsFreeOf spans i (j + 1)
free_next spans i j d e r h k n f before m g l o t = elim (cases_lt m j) [
  | inl p ↦ before m g l p t
  | inr p ↦
      let q : m ≡ j = omega arith in
      n f (subst (λ (s : Span). DoEdgesTangle s.edge (slice_index_or spans j e).edge) (get_or_default spans i g d (omega arith)) (subst (λ (s : Span). DoEdgesTangle (slice_index_or spans i g).edge s.edge) (get_or_default spans j g e k)
      (subst (λ (z : ℕ). DoEdgesTangle (slice_index_or spans i g).edge (slice_index_or spans z g).edge) q t)))
]

-- one more edge that tangles with no later one
pub free_more : (spans : List Span) (i : ℕ) → IsFreeOf spans i (length spans) → ((k : ℕ) → k < i → IsFreeOf spans k (length spans)) → (k : ℕ) → k < i + 1 → IsFreeOf spans k (length spans)
free_more spans i here before k h = elim (cases_lt k i) [
  | inl l ↦ before k l
  | inr l ↦ let e : i ≡ k = omega arith in subst (λ (n : ℕ). IsFreeOf spans n (length spans)) e here
]

-- one more span made
pub spans_more : (edges : List Edge) (i : ℕ) (d : Edge) (old new : List Span) (s : Span) → i < length edges → (map (λ (s : Span). s.edge) old ≡ take i edges) × All IsSpan old → s.edge ≡ slice_index_or edges i d → IsSpan s → new ≡ old ++ s ∷ []
    → (map (λ (s : Span). s.edge) new ≡ take (i + 1) edges) × All IsSpan new
spans_more edges i d old new s h k e is f = (
  ap (map (λ (s : Span). s.edge)) f ∙ map-append (λ (s : Span). s.edge) old (s ∷ []) ∙ ap (λ (es : List Edge). es ++ s.edge ∷ []) k.0 ∙ ap (λ (x : Edge). take i edges ++ x ∷ []) e ∙ sym (take_more edges i d h),
  subst (All IsSpan) (sym f) (All-push IsSpan old s k.1 is),
)

-- ---- in their first order
abbrev some : Span
some = let o : Point = record { x = pos 0; y = pos 0 } in record { left = 0; bounds = record { lo = o; hi = o }; edge = record { a = o; b = o } }

abbrev pub AreUntangled : Span → Span → Type 0
AreUntangled s t = ¬ (DoEdgesTangle s.edge t.edge)

pub sorted_apart : (edges : List Edge) (spans sorted : List Span) → map (λ (s : Span). s.edge) spans ≡ edges → IsPermutation spans sorted → AllPairs AreUntangled sorted → AreApart edges
sorted_apart edges spans sorted e p all i j t = free i j some t.ordered (omega (arith, long, t.in_list))
    (subst (λ (f : Edge). DoEdgesTangle f (slice_index_or spans j some).edge) (edge_at i (omega (arith, long, t.in_list, t.ordered)))
    (subst (λ (f : Edge). DoEdgesTangle (slice_index_or edges i some.edge) f) (edge_at j (omega (arith, long, t.in_list))) (t.tangled some.edge)))
  where
    free : AllPairs AreUntangled spans
    free = AllPairs-reordered AreUntangled sorted spans (λ s t n h. n (tangle_back t.edge s.edge h)) (IsPermutation-sym spans sorted p) all

    long : length edges ≡ length spans
    long = ap (λ (es : List Edge). length es) (sym e) ∙ length-map spans (λ (s : Span). s.edge)

    edge_at : (k : ℕ) → k < length spans → slice_index_or edges k some.edge ≡ (slice_index_or spans k some).edge
    edge_at k h = ap (λ (es : List Edge). slice_index_or es k some.edge) (sym e) ∙ get_or-map (λ (s : Span). s.edge) spans k some some.edge h

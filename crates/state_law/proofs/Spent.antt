-- The ground of glued elements is spent: each point of it is on a front line, or the front winds 0 times round it. Gluing keeps this, and adds the new element's ground. So a point of an old element off the front is in no element that may be glued, and no point comes to hang: without boundary and further edges.
-- In the new element, and at its sides, the front winds 0 times after gluing, by a point beside in the open element; elsewhere as before. Stands on Region, Settled and Hanging.
use lib.IntN.{ℤ, pos}
use lib.Signed.{◌<ℤ◌, ◌≤ℤ◌}
use mathlib.Core.Path.{◌≡◌, refl, sym, ap, ◌∙◌, subst}
use mathlib.Core.List.{List, [], ◌∷◌, ◌++◌}
use mathlib.Core.Logic.{◌⊎◌, inl, inr}
use native.Mathlib.Omega.{arith}
use Rattle.std.proofs.lemmas.Int.{ints}
use Rattle.std.specs.List.{AllByRecursion}
use Rattle.grid_geom.specs.declared.Point.{Point}
use Rattle.grid_geom.specs.declared.RatPoint.{RatPoint}
use Rattle.grid_geom.specs.declared.Edge.{Edge}
use Rattle.grid_geom.specs.Plane.{orient_rat, IsRational}
use Rattle.grid_geom.specs.Sides.{IsOnClosed}
use Rattle.grid_geom.specs.Line.{whole}
use Rattle.grid_geom.specs.Polygon.{sides, IsStrictlyConvex}
use Rattle.grid_geom.specs.Winding.{wind}
use Rattle.grid_geom.specs.Closed.{IsOff}
use Rattle.grid_geom.proofs.Signs.{either}
use Rattle.wind_law.specs.Near.{IsInClosure}
use Rattle.state_law.specs.Gluing.{glue, glue_all, MayBeGlued, MayAllBeGlued}
use Rattle.state_law.specs.Saved.{IsElement}
use Rattle.state_law.specs.Conforming.{HasNoHanging}
use Rattle.state_law.specs.Region.{IsRegion, AreSpent, IsHeld}
use Rattle.state_law.proofs.GluedFree.{unglued_sides}
use Rattle.state_law.proofs.KeptOn.{wind_inside, glued_inside, glued_outside}
use Rattle.state_law.proofs.Parted.{HasAlikeNear, alike_near}
use Rattle.state_law.proofs.Lists.{all_append}
use Rattle.state_law.proofs.Hanging.{no_hanging_by}
use Rattle.state_law.proofs.Applied.{none_hangs}
use Rattle.state_law.proofs.Region.{region_on}
use Rattle.state_law.proofs.Settled.{closure_of, off_closure}

-- ---- in the closed polygon or not
weakly_left : (q : RatPoint) (es : List Edge) → AllByRecursion (λ e. pos 0 ≤ℤ orient_rat e.a e.b q) es ⊎ ¬ (AllByRecursion (λ e. pos 0 ≤ℤ orient_rat e.a e.b q) es)
weakly_left q [] = inl tt
weakly_left q (e ∷ es) = elim (either (pos 0) (orient_rat e.a e.b q)) [
  | inr h ↦ inr (λ a. off a.0 h)
  | inl h ↦ elim (weakly_left q es) [ inl i ↦ inl (h, i) | inr n ↦ inr (λ a. n a.1) ]
]
  where
    off : {z : ℤ} → pos 0 ≤ℤ z → z <ℤ pos 0 → ⊥
    off {z} f g = omega (arith, ints)

closure_or_not : (q : RatPoint) (cs : List Point) → IsInClosure q cs ⊎ ¬ (IsInClosure q cs)
closure_or_not q cs = elim (weakly_left q (sides cs)) [ inl h ↦ inl (record { left = h }) | inr n ↦ inr (λ i. n i.left) ]

-- ---- the new element's ground is spent
spent_new : (front : List Edge) (cs : List Point) (q : RatPoint) → IsRegion front → MayBeGlued cs front → IsRational q → IsInClosure q cs → IsOff q (glue front cs) → wind q (glue front cs) ≡ pos 0
spent_new front cs q r m kq i o = from (alike_near q cs (glue front cs) (glue front cs) kq m.turned i after.edges after.closed o after.edges)
  where
    after : IsRegion (glue front cs)
    after = region_on front cs r m

    from : HasAlikeNear q cs (glue front cs) (glue front cs) → wind q (glue front cs) ≡ pos 0
    from h = sym h.alike ∙ glued_inside cs front h.at r.edges r.closed m h.rational h.inside

-- and what is spent stays so
spent_still : (front : List Edge) (cs : List Point) (q : RatPoint) → IsRegion front → MayBeGlued cs front → IsRational q → (IsOff q front → wind q front ≡ pos 0) → IsOff q (glue front cs) → wind q (glue front cs) ≡ pos 0
spent_still front cs q r m kq s o = elim (closure_or_not q cs) [
  | inl i ↦ spent_new front cs q r m kq i o
  | inr n ↦ glued_outside cs front q m.turned kq (off_closure q cs kq m.turned n) (λ i. n (closure_of q cs i)) ∙ s (unglued_sides (λ e. ¬ (IsOnClosed q e.a e.b)) front (sides cs) o (off_closure q cs kq m.turned n))
]

pub spent_on : (front : List Edge) (elements : List (List Point)) (cs : List Point) → IsRegion front → AreSpent front elements → MayBeGlued cs front → AreSpent (glue front cs) (elements ++ cs ∷ [])
spent_on front elements cs r s m ds d q kq i o = elim (last elements d) [
  | inl e ↦ spent_still front cs q r m kq (s ds e q kq i) o
  | inr e ↦ spent_new front cs q r m kq (subst (IsInClosure q) (sym e) i) o
]
  where
    last : (es : List (List Point)) → IsElement ds (es ++ cs ∷ []) → IsElement ds es ⊎ (cs ≡ ds)
    last [] (inl e) = inr e
    last [] (inr e) = absurd e
    last (fs ∷ es) (inl e) = inl (inl e)
    last (fs ∷ es) (inr j) = elim (last es j) [ inl k ↦ inl (inr k) | inr e ↦ inr e ]

-- ---- spent ground takes no element
pub spent_taken : (front : List Edge) (elements : List (List Point)) (ds cs : List Point) (q : RatPoint) → IsRegion front → AreSpent front elements → IsElement ds elements → IsRational q → IsOff q front → IsInClosure q ds → IsInClosure q cs → ¬ (MayBeGlued cs front)
spent_taken front elements ds cs q r s d kq o i j m = from (alike_near q cs front front kq m.turned j r.edges r.closed o r.edges)
  where
    from : HasAlikeNear q cs front front → ⊥
    from h = different h.alike (s ds d q kq i o) (wind_inside cs front h.at r.edges r.closed m h.rational h.inside)
      where
        different : {x y : ℤ} → x ≡ y → y ≡ pos 0 → x ≡ pos 1 → ⊥
        different {x} {y} e f g = omega (arith, ints)

pub spent_hangs : (front : List Edge) (elements : List (List Point)) (cs : List Point) → IsRegion front → AllByRecursion IsStrictlyConvex elements → AreSpent front elements → MayBeGlued cs front → HasNoHanging front elements → HasNoHanging (glue front cs) (elements ++ cs ∷ [])
spent_hangs front elements cs r c s m h = no_hanging_by front elements cs c (λ ds v o d i j. spent_taken front elements ds cs (whole v) r s d (record { positive = omega (arith, ints) }) o i j m) m h

-- ---- all of it, from the opening on
pub held_opened : (front : List Edge) → IsRegion front → IsHeld front []
held_opened front r = record { region = r; convex = tt; spent = λ ds d q kq i o. absurd d; unhung = none_hangs front r.untangled }

pub held_on : (front : List Edge) (elements : List (List Point)) (cs : List Point) → IsHeld front elements → MayBeGlued cs front → IsHeld (glue front cs) (elements ++ cs ∷ [])
held_on front elements cs h m = record {
  region = region_on front cs h.region m;
  convex = all_append IsStrictlyConvex elements (cs ∷ []) h.convex (m.turned, tt);
  spent = spent_on front elements cs h.region h.spent m;
  unhung = spent_hangs front elements cs h.region h.convex h.spent m h.unhung;
}

pub held_all : (front : List Edge) (elements more : List (List Point)) → IsHeld front elements → MayAllBeGlued more front → IsHeld (glue_all front more) (elements ++ more)
held_all front elements [] h m = subst (IsHeld front) (sym (whole_list elements)) h
  where
    whole_list : (l : List (List Point)) → l ++ [] ≡ l
    whole_list [] = refl
    whole_list (x ∷ l) = ap (λ (r : List (List Point)). x ∷ r) (whole_list l)
held_all front elements (cs ∷ more) h m = subst (IsHeld (glue_all (glue front cs) more)) (longer elements) (held_all (glue front cs) (elements ++ cs ∷ []) more (held_on front elements cs h m.0) m.1)
  where
    longer : (l : List (List Point)) → (l ++ cs ∷ []) ++ more ≡ l ++ cs ∷ more
    longer [] = refl
    longer (ds ∷ l) = ap (λ (r : List (List Point)). ds ∷ r) (longer l)

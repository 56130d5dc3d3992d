-- From a domain's opening on: what a run keeps holds of the opening front, no point hangs there, and both go on through the elements of an application.
use Prim.Native.Nat.{ℕ, suc}
use lib.IntN.{ℤ, pos, ◌+ℤ◌, ◌-ℤ◌}
use lib.Signed.{◌<ℤ◌, ◌≤ℤ◌}
use lib.ListN.{length}
use mathlib.Core.Path.{◌≡◌, refl, sym, ap, ◌∙◌, subst}
use mathlib.Core.List.{List, [], ◌∷◌, ◌++◌}
use mathlib.Core.Logic.{◌⊎◌, inl, inr}
use native.Mathlib.Omega.{arith}
use Rattle.std.proofs.lemmas.Int.{ints}
use Rattle.std.specs.List.{AllByRecursion}
use Rattle.grid_geom.specs.declared.Point.{Point}
use Rattle.grid_geom.specs.declared.Edge.{Edge}
use Rattle.grid_geom.specs.Sides.{IsOnOpen, first_start, first_end}
use Rattle.grid_geom.specs.Area.{shoelace}
use Rattle.grid_geom.specs.Closed.{IsEdge}
use Rattle.state_law.specs.Free.{AreFreeOf, DoEdgesTangle, IsIn}
use Rattle.state_law.specs.Net.{net}
use Rattle.state_law.specs.Gluing.{glue, glue_all, MayBeGlued, MayAllBeGlued}
use Rattle.state_law.specs.Kept.{IsKept}
use Rattle.state_law.specs.Saved.{IsFrontPoint}
use Rattle.state_law.specs.Conforming.{IsBoundary, WindsOnce, IsUsed, DoesNotHang, HasNoHanging, IsSound}
use Rattle.state_law.proofs.Lists.{all_map}
use Rattle.state_law.proofs.Glued.{glued_falls}
use Rattle.state_law.proofs.KeptOn.{kept_on}
use Rattle.state_law.proofs.CentreSaved.{others_of}
use Rattle.state_law.proofs.Hanging.{no_hanging, still_used}

-- ---- the opening
pub opened : (boundary others : List Edge) → AllByRecursion IsEdge others → IsBoundary boundary others → WindsOnce boundary others → IsKept boundary others boundary []
opened boundary others n b w = record {
  other_edges = n;
  edges = b.edges;
  closed = b.closed;
  untangled = b.untangled;
  convex = tt;
  chain = λ x. none (net x boundary);
  single = λ q kq o. w q kq o.off_others;
}
  where
    none : (a : ℤ) → a ≡ a +ℤ (pos 0 -ℤ pos 0)
    none a = omega (arith, ints)

-- the front line that has the end
pub record HasEnd (v : Point) (front : List Edge) : Type 0 where
  pub line : Edge
  pub among : IsIn line front
  pub at_end : (v ≡ line.a) ⊎ (v ≡ line.b)

pub end_of : (v : Point) (front : List Edge) → IsFrontPoint front v → HasEnd v front
end_of v [] i = absurd i
end_of v (e ∷ front) (inl i) = record { line = e; among = inl refl; at_end = i }
end_of v (e ∷ front) (inr i) = let r = end_of v front i in record { line = r.line; among = inr r.among; at_end = r.at_end }

not_in_open : (v : Point) (e f : Edge) → (v ≡ e.a) ⊎ (v ≡ e.b) → (f ≡ e) ⊎ ¬ (DoEdgesTangle e f) → ¬ (IsOnOpen v f.a f.b)
not_in_open v e f (inl i) (inl j) o = o.not_a (i ∙ ap (λ (z : Edge). z.a) (sym j))
not_in_open v e f (inr i) (inl j) o = o.not_b (i ∙ ap (λ (z : Edge). z.b) (sym j))
not_in_open v e f (inl i) (inr t) o = t (first_start (subst (λ (z : Point). IsOnOpen z f.a f.b) i o))
not_in_open v e f (inr i) (inr t) o = t (first_end (subst (λ (z : Point). IsOnOpen z f.a f.b) i o))

pub none_hangs : (front : List Edge) → AreFreeOf DoEdgesTangle front → HasNoHanging front []
none_hangs front u = record { each = each }
  where
    on_lines : (v : Point) → HasEnd v front → AllByRecursion (λ e. ¬ (IsOnOpen v e.a e.b)) front
    on_lines v r = all_map (λ f. (f ≡ r.line) ⊎ ¬ (DoEdgesTangle r.line f)) (λ f. ¬ (IsOnOpen v f.a f.b)) (λ f z. not_in_open v r.line f r.at_end z) front (others_of r.line front u r.among)

    each : (v : Point) → IsUsed front [] v → DoesNotHang front [] v
    each v (inl i) = record { off_sides = tt; off_lines = on_lines v (end_of v front i) }
    each v (inr i) = absurd i

-- ---- an application
longer : (elements : List (List Point)) (cs : List Point) (more : List (List Point)) → (elements ++ cs ∷ []) ++ more ≡ elements ++ cs ∷ more
longer [] cs more = refl
longer (ds ∷ elements) cs more = ap (λ (l : List (List Point)). ds ∷ l) (longer elements cs more)

pub kept_all : (boundary others front : List Edge) (elements more : List (List Point)) → IsKept boundary others front elements → MayAllBeGlued more front → IsKept boundary others (glue_all front more) (elements ++ more)
kept_all boundary others front elements [] k m = subst (IsKept boundary others front) (sym (whole_list elements)) k
  where
    whole_list : (l : List (List Point)) → l ++ [] ≡ l
    whole_list [] = refl
    whole_list (x ∷ l) = ap (λ (r : List (List Point)). x ∷ r) (whole_list l)
kept_all boundary others front elements (cs ∷ more) k m = subst (IsKept boundary others (glue_all (glue front cs) more)) (longer elements cs more)
    (kept_all boundary others (glue front cs) (elements ++ cs ∷ []) more (kept_on boundary others front elements cs k m.0) m.1)

pub no_hanging_all : (boundary others front : List Edge) (elements more : List (List Point)) → IsKept boundary others front elements → IsBoundary boundary others → MayAllBeGlued more front → HasNoHanging front elements → HasNoHanging (glue_all front more) (elements ++ more)
no_hanging_all boundary others front elements [] k b m h = subst (HasNoHanging front) (sym (whole_list elements)) h
  where
    whole_list : (l : List (List Point)) → l ++ [] ≡ l
    whole_list [] = refl
    whole_list (x ∷ l) = ap (λ (r : List (List Point)). x ∷ r) (whole_list l)
no_hanging_all boundary others front elements (cs ∷ more) k b m h = subst (HasNoHanging (glue_all (glue front cs) more)) (longer elements cs more)
    (no_hanging_all boundary others (glue front cs) (elements ++ cs ∷ []) more (kept_on boundary others front elements cs k m.0) b m.1 (no_hanging boundary others front elements cs k b m.0 h))

-- the area falls by at least the number of elements, and stays at least 0
pub falls_all : (front : List Edge) (more : List (List Point)) → MayAllBeGlued more front → (shoelace (glue_all front more) +ℤ pos (length more)) ≤ℤ shoelace front
falls_all front [] m = level (shoelace front)
  where
    level : (a : ℤ) → (a +ℤ pos 0) ≤ℤ a
    level a = omega (arith, ints)
falls_all front (cs ∷ more) m = more_of (shoelace (glue_all (glue front cs) more)) (length more) (shoelace (glue front cs)) (shoelace front) (falls_all (glue front cs) more m.1) (glued_falls front cs m.0.turned)
  where
    more_of : (a : ℤ) (n : ℕ) (b c : ℤ) → (a +ℤ pos n) ≤ℤ b → b <ℤ c → (a +ℤ pos (suc n)) ≤ℤ c
    more_of a n b c h i = omega (arith, ints)

-- ---- all of a domain's state
pub sound_opened : (boundary others : List Edge) → AllByRecursion IsEdge others → IsBoundary boundary others → WindsOnce boundary others → IsSound boundary others boundary []
sound_opened boundary others n b w = record { kept = opened boundary others n b w; bounds = b; winds = w; unhung = none_hangs boundary b.untangled; ends_used = λ v i. inl i }

pub sound_on : (boundary others front : List Edge) (elements : List (List Point)) (cs : List Point) → IsSound boundary others front elements → MayBeGlued cs front → IsSound boundary others (glue front cs) (elements ++ cs ∷ [])
sound_on boundary others front elements cs s m = record {
  kept = kept_on boundary others front elements cs s.kept m;
  bounds = s.bounds;
  winds = s.winds;
  unhung = no_hanging boundary others front elements cs s.kept s.bounds m s.unhung;
  ends_used = λ v i. still_used front elements cs v (inl (s.ends_used v i));
}

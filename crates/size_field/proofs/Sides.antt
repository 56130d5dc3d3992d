-- One walk over the sources gives the bound of a piece, whatever lies on its two sides.
use Rattle.std.proofs.Common.{◌≡◌, ◌≢◌, ℕ, ◌≤◌, ◌==◌, Bool, true, false, cond, min, List, [], ◌∷◌, Option, None, Some, refl, sym, ap, ◌∙◌, arith}
use Rattle.std.proofs.lemmas.Bool.{eqb-true}
use Rattle.grid_geom.specs.declared.Point.{Point}
use Rattle.grid_geom.specs.declared.TheConstants.{LONGEST}
use Rattle.geom_check.specs.declared.kinds.Source.{Source}
use Rattle.geom_check.specs.declared.kinds.Segment.{Segment}
use Rattle.geom_check.specs.declared.kinds.Domain.{Domain}
use Rattle.std.specs.List.{AllByRecursion}
use Rattle.std.proofs.lemmas.List.Elements.{recursion_from_All}
use Rattle.geom_check.specs.Geometry.{PlanarMap, IsGeometry, IsLength, IsLengthIfAny}
use Rattle.grid_geom.specs.declared.Edge.{Edge}
use Rattle.geom_check.specs.Boundary.{edge_of}
use Rattle.size_field.specs.declared.cutting.TheConstants.{MOST_HALVINGS}
use Rattle.size_field.specs.Size.{SizeField, least_size, size_from}
use Rattle.size_field.specs.Cutting.{at_most, size_of_domain, greatest_in, side_most, most_of, bound, bound_by, parts, parts_of}
use Rattle.size_field.proofs.LeastSizes.{least_min, least_most}

spread : (n a b : ℕ) → min (min n a) b ≡ min (min n b) (min a b)
spread n a b = omega arith

-- the least of two sizes, and of what the sources leave
least_both : (g : ℕ) (q : Point) (a b : ℕ) (ss : List Source) → least_size g q (min a b) ss ≡ min (least_size g q a ss) (least_size g q b ss)
least_both g q a b [] = refl
least_both g q a b (s ∷ ss) = ap (λ (m : ℕ). least_size g q m ss) (spread a b (size_from g q s)) ∙ least_both g q (min a (size_from g q s)) (min b (size_from g q s)) ss

below : (a b : ℕ) → b ≤ a → min a b ≡ b
below a b h = omega arith

below_first : (a b : ℕ) → a ≤ b → min a b ≡ a
below_first a b h = omega arith

capped : (g : ℕ) (q : Point) (n : ℕ) (ss : List Source) → n ≤ LONGEST → least_size g q n ss ≤ LONGEST
capped g q n ss h = let most = least_most g q n ss in omega (arith, most, h)

-- at most one side is the outside
sides : (l r : Bool) (g : ℕ) (q : Point) (left right : ℕ) (ss : List Source) → (l ≡ true → r ≡ true → ⊥) → left ≤ LONGEST → right ≤ LONGEST
    → least_size g q (min (cond l LONGEST left) (cond r LONGEST right)) ss ≡ min (cond l LONGEST (least_size g q left ss)) (cond r LONGEST (least_size g q right ss))
sides true true g q left right ss two hl hr = absurd (two refl refl)
sides true false g q left right ss two hl hr = ap (λ (m : ℕ). least_size g q m ss) (below LONGEST right hr) ∙ sym (below LONGEST (least_size g q right ss) (capped g q right ss hr))
sides false true g q left right ss two hl hr = ap (λ (m : ℕ). least_size g q m ss) (below_first left LONGEST hl) ∙ sym (below_first (least_size g q left ss) LONGEST (capped g q left ss hl))
sides false false g q left right ss two hl hr = least_both g q left right ss

-- a segment's own greatest length
own : (g : ℕ) (q : Point) (n : ℕ) (o : Option ℕ) (ss : List Source) → least_size g q (at_most n o) ss ≡ at_most (least_size g q n ss) o
own g q n None ss = refl
own g q n (Some m) ss = least_min g q m n ss

at_most_below : (n m : ℕ) (o : Option ℕ) → n ≤ m → at_most n o ≤ m
at_most_below n m None h = h
at_most_below n m (Some k) h = omega arith

both_outside : (l r : ℕ) → l ≢ r → (l == 0) ≡ true → (r == 0) ≡ true → ⊥
both_outside l r n e f = n (eqb-true l 0 e ∙ sym (eqb-true r 0 f))

-- the bound of a piece, by one walk over the sources
pub bound_is : (g : PlanarMap) (greatest grading : ℕ) (s : Segment) (m : Point) → greatest ≤ LONGEST → s.left ≢ s.right → least_size grading m (most_of g.domains greatest s) g.flagged ≡ bound g greatest grading s m
bound_is g greatest grading s m h two =
    own grading m (min (side_most g.domains greatest s.left) (side_most g.domains greatest s.right)) s.maxh g.flagged
    ∙ ap (λ (n : ℕ). at_most n s.maxh)
    (sides (s.left == 0) (s.right == 0) grading m (greatest_in g.domains greatest s.left) (greatest_in g.domains greatest s.right) g.flagged (both_outside s.left s.right two)
    (at_most_below greatest LONGEST (size_of_domain g.domains s.left) h) (at_most_below greatest LONGEST (size_of_domain g.domains s.right) h))

-- the pieces of a segment, by that bound
pub same_parts : (g : PlanarMap) (greatest : ℕ) (s : Segment) (field : SizeField) (most : ℕ) (e : Edge) → (greatest ≤ LONGEST) × (s.left ≢ s.right) → field.sources ≡ g.flagged → most ≡ most_of g.domains greatest s → e ≡ edge_of g.points s
    → parts (bound_by field most) MOST_HALVINGS e.a e.b ≡ parts_of g greatest field.grading s
same_parts g greatest s field most e h sources most_is edge_is = λ i. parts (λ m. bounds m i) MOST_HALVINGS (edge_is i).a (edge_is i).b
  where
    bounds : (m : Point) → bound_by field most m ≡ bound g greatest field.grading s m
    bounds m = (λ i. least_size field.grading m (most_is i) (sources i)) ∙ bound_is g greatest field.grading s m h.0 h.1

-- ---- the greatest size of a domain is a length
length_of : (domains : List Domain) (domain : ℕ) → AllByRecursion (λ d. IsLengthIfAny d.maxh) domains → IsLengthIfAny (size_of_domain domains domain)
length_of [] domain h = tt
length_of (d ∷ ds) domain h = by (d.number == domain) (length_of ds domain h.1)
  where
    by : (b : Bool) → IsLengthIfAny (size_of_domain ds domain) → IsLengthIfAny (cond b d.maxh (size_of_domain ds domain))
    by true rest = h.0
    by false rest = rest

pub least_length : (n : ℕ) (o : Option ℕ) → IsLength n → IsLengthIfAny o → IsLength (at_most n o)
least_length n None h k = h
least_length n (Some m) h k = record { least = omega (arith, h.least, k.least); greatest = omega (arith, h.greatest) }

pub greatest_length : (g : PlanarMap) (greatest domain : ℕ) → IsGeometry g → IsLength greatest → IsLength (greatest_in g.domains greatest domain)
greatest_length g greatest domain h k = least_length greatest (size_of_domain g.domains domain) k (length_of g.domains domain (recursion_from_All (λ d. IsLengthIfAny d.maxh) g.domains h.domain_sizes))

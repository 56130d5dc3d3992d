-- What sizes keep, after a source was added, and what it gives for the size at a point.
use Rattle.std.proofs.Common.{◌≡◌, ℕ, ◌≤◌, min, List, [], ◌∷◌, ◌++◌, sym, ap, ◌∙◌, arith}
use Rattle.std.proofs.lemmas.List.Elements.{All-push}
use Rattle.grid_geom.specs.declared.Point.{Point}
use Rattle.grid_geom.specs.declared.TheConstants.{LONGEST}
use Rattle.geom_check.specs.declared.kinds.Source.{Source}
use Rattle.geom_check.specs.Geometry.{IsSource}
use Rattle.size_field.specs.Size.{SizeField, least_size, size_at, size_from}
use Rattle.size_field.specs.Kept.{AreKept}
use Rattle.size_field.proofs.LeastSizes.{least_min, least_push, least_most, least_positive}

-- a source is in the list, and in the tree or without effect there
pub kept_with : (field : SizeField) (tree new : List Source) (s : Source) (sources : List Source) → AreKept field tree → IsSource s → sources ≡ field.sources ++ s ∷ [] →
    ((g : ℕ) (q : Point) → least_size g q field.greatest new ≡ least_size g q field.greatest (s ∷ tree)) → AreKept (record { greatest = field.greatest; grading = field.grading; sources = sources }) new
kept_with field tree new s sources kept source is added = rw is (record {
  limits = kept.limits;
  sources = All-push IsSource field.sources s kept.sources source;
  alike = λ q.
      added field.grading q
      ∙ least_min field.grading q (size_from field.grading q s) field.greatest tree
      ∙ ap (λ (n : ℕ). min n (size_from field.grading q s)) (kept.alike q)
      ∙ sym (least_push field.grading q field.greatest field.sources s);
})

-- the size at a point is at least 1, at most the greatest size, and at most the grid's width
pub record IsBounded (field : SizeField) (n : ℕ) : Type 0 where
  pub least : 1 ≤ n
  pub most : n ≤ field.greatest
  pub small : n ≤ LONGEST

pub bounded_at : (field : SizeField) (tree : List Source) (q : Point) (n : ℕ) → AreKept field tree → n ≡ least_size field.grading q field.greatest tree → IsBounded field n
bounded_at field tree q n kept is = rw (is, kept.alike q) (record {
  least = least_positive field.grading q field.greatest field.sources kept.limits.length.least kept.sources;
  most = most;
  small = omega (arith, most, kept.limits.length.greatest);
})
  where
    most : size_at field q ≤ field.greatest
    most = least_most field.grading q field.greatest field.sources

-- and so of any lesser length
pub alike_below : (field : SizeField) (tree : List Source) (q : Point) (n length : ℕ) → AreKept field tree → length ≤ field.greatest → n ≡ least_size field.grading q length tree → n ≡ least_size field.grading q length field.sources
alike_below field tree q n length kept below is =
    let same : length ≡ min field.greatest length = omega (arith, below) in
    is
    ∙ ap (λ (m : ℕ). least_size field.grading q m tree) same
    ∙ least_min field.grading q length field.greatest tree
    ∙ ap (λ (m : ℕ). min m length) (kept.alike q)
    ∙ sym (least_min field.grading q length field.greatest field.sources)
    ∙ ap (λ (m : ℕ). least_size field.grading q m field.sources) (sym same)

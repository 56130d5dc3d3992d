-- The domains of a geometry are above 0, and so those of its elements; what the search for a difference answers.
use Rattle.std.proofs.Common.{◌≡◌, ℕ, ◌<◌, List, length, slice_index_or, All, Option, Some, None, Result, Ok, Err, IfOk, IfSome, IfNone, sym, ◌∙◌, ap, subst}
use Rattle.std.specs.List.{AllByRecursion}
use Rattle.std.proofs.lemmas.List.{get_or-map, length-map}
use Rattle.std.proofs.lemmas.List.Elements.{recursion_from_All}
use Rattle.geom_check.specs.declared.kinds.Domain.{Domain}
use Rattle.geom_check.specs.Domains.{IsDomain}
use Rattle.geom_check.specs.Geometry.{PlanarMap, IsGeometry}
use Rattle.geom_check.proofs.DomainNumbers.{numbers_within}
use Rattle.vol_format.specs.declared.EdgeRow.{EdgeRow}
use Rattle.vol_format.specs.declared.MeshElement.{MeshElement}
use Rattle.vol_format.specs.declared.Mesh.{Mesh}
use Rattle.mesh_check.specs.declared.sides.Side.{Side}
use Rattle.mesh_check.specs.declared.difference.Difference.{Difference}
use Rattle.mesh_check.specs.Whole.{HasDomainOf, IsChained}
use Rattle.mesh_check.specs.Verdict.{IsLeastChain}
use Rattle.mesh_check.specs.Balance.{element_sides, row_sides, net_of, IsLeastDifference}
use Rattle.mesh_check.proofs.Numbered.{IsNumbered, all_chained, least_pair}

-- the number of a domain of a geometry is above 0
above : (g : PlanarMap) → IsGeometry g → (k : ℕ) (d : Domain) → k < length g.domains → slice_index_or g.domains k d ≡ d → 0 < d.number
above g h k d l e = (subst IsDomain (ap (λ (ns : List ℕ). slice_index_or ns k d.number) (sym h.numbers) ∙ get_or-map (λ (d : Domain). d.number) g.domains k d d.number l ∙ ap (λ (d : Domain). d.number) e) (numbers_within (length g.points) g.segments h.joined k d.number (subst (λ (n : ℕ). k < n) (sym (length-map g.domains (λ (d : Domain). d.number)) ∙ ap (λ (ns : List ℕ). length ns) h.numbers) l))).0

pub domains_above : (g : PlanarMap) (elements : List MeshElement) → IsGeometry g → All (HasDomainOf g.domains) elements → AllByRecursion (λ e. 0 < e.domain) elements
domains_above g elements h all = recursion_from_All (λ e. 0 < e.domain) elements (λ k e l. named (slice_index_or elements k e) (all k e l))
  where
    named : (e : MeshElement) → HasDomainOf g.domains e → 0 < e.domain
    named e (k, d, l, i, f) = subst (λ (n : ℕ). 0 < n) f (above g h k d l i)

pub chain_some : (g : PlanarMap) (m : Mesh) (es : List MeshElement) (rows : List EdgeRow) {E : Type 0} (r : Result (Option Difference) E) → IsGeometry g → IsNumbered m → All (HasDomainOf g.domains) m.elements → es ≡ m.elements → rows ≡ m.edges
    → IfOk r (λ found. IfSome found (IsLeastDifference (element_sides es) (row_sides rows))) → IfOk r (λ found. IfSome found (λ d. IsLeastChain m d.side.domain d.side.from d.side.to d.elements d.edges))
chain_some g m es rows (Err x) h n all e f l = l
chain_some g m es rows (Ok None) h n all e f l = l
chain_some g m es rows (Ok (Some d)) h n all e f l = least_pair m d n (domains_above g m.elements h all)
    (subst (λ (es : List MeshElement). IsLeastDifference (element_sides es) (row_sides m.edges) d) e (subst (λ (rows : List EdgeRow). IsLeastDifference (element_sides es) (row_sides rows) d) f l))

pub chain_none : (m : Mesh) (es : List MeshElement) (rows : List EdgeRow) {E : Type 0} (r : Result (Option Difference) E) → IsNumbered m → es ≡ m.elements → rows ≡ m.edges
    → IfOk r (λ found. IfNone found ((s : Side) → net_of s (element_sides es) ≡ net_of s (row_sides rows))) → IfOk r (λ found. IfNone found ((domain : ℕ) → 0 < domain → IsChained m domain))
chain_none m es rows (Err x) n e f l = l
chain_none m es rows (Ok None) n e f l = all_chained m n (subst (λ (es : List MeshElement). (s : Side) → net_of s (element_sides es) ≡ net_of s (row_sides m.edges)) e (subst (λ (rows : List EdgeRow). (s : Side) → net_of s (element_sides es) ≡ net_of s (row_sides rows)) f l))
chain_none m es rows (Ok (Some d)) n e f l = l

-- What the parts of the check say of lists is said of the mesh's own lists; what holds where an answer is absent.
use Rattle.std.proofs.Common.{◌≡◌, Bool, true, false, not, List, All, Option, Some, None, is_some, IfNone, subst}
use Rattle.geom_check.specs.declared.kinds.Domain.{Domain}
use Rattle.vol_format.specs.declared.MeshElement.{MeshElement}
use Rattle.mesh_check.specs.Whole.{HasDomainOf}

pub all_of : (ds es : List Domain) (xs ys : List MeshElement) → ds ≡ es → xs ≡ ys → All (HasDomainOf ds) xs → All (HasDomainOf es) ys
all_of ds es xs ys e f h = subst (λ (es : List Domain). All (HasDomainOf es) ys) e (subst (All (HasDomainOf ds)) f h)

pub if_none : {A : Type 0} (P : Type 0) (r : Option A) → P → IfNone r P
if_none P None p = p
if_none P (Some x) p = tt

pub absent : {A : Type 0} (P : Type 0) (r : Option A) (b : Bool) → is_some r ≡ not b → b ≡ true → IfNone r P → P
absent P None b e f h = h
absent P (Some x) true e f h = absurd cc
absent P (Some x) false e f h = absurd cc

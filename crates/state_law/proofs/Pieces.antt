-- The lines of two domains, chosen from one list of untangled edges and their reverses: each two are the same, reversed, or don't tangle.
use mathlib.Core.Path.{◌≡◌, ap}
use mathlib.Core.List.{List}
use mathlib.Core.Logic.{◌⊎◌, inl, inr}
use Rattle.std.specs.List.{AllByRecursion}
use Rattle.grid_geom.specs.declared.Edge.{Edge}
use Rattle.wind_law.specs.Chains.{back}
use Rattle.state_law.specs.Free.{AreFreeOf, DoEdgesTangle, IsIn}
use Rattle.state_law.specs.Region.{IsChosen}
use Rattle.state_law.proofs.Lists.{all_map, at_edge}
use Rattle.state_law.proofs.Untangled.{tangle_back_first, tangle_two_way}
use Rattle.state_law.proofs.CentreSaved.{others_of}

abbrev IsOneOrFree : Edge → Edge → Type 0
IsOneOrFree f g = (g ≡ f) ⊎ ((g ≡ back f) ⊎ ¬ (DoEdgesTangle f g))

turned_second : (f g : Edge) → IsOneOrFree f (back g) → IsOneOrFree f g
turned_second f g (inl e) = inr (inl (ap back e))
turned_second f g (inr (inl e)) = inl (ap back e)
turned_second f g (inr (inr t)) = inr (inr (λ r. t (tangle_two_way.later f (back g) r)))

turned_first : (f g : Edge) → IsOneOrFree (back f) g → IsOneOrFree f g
turned_first f g (inl e) = inr (inl e)
turned_first f g (inr (inl e)) = inl e
turned_first f g (inr (inr t)) = inr (inr (λ r. t (tangle_back_first f g r)))

of_two : (es : List Edge) (f g : Edge) → AreFreeOf DoEdgesTangle es → IsIn f es → IsIn g es → IsOneOrFree f g
of_two es f g u i j = elim (at_edge (λ g. (g ≡ f) ⊎ ¬ (DoEdgesTangle f g)) g es (others_of f es u i) j) [ inl e ↦ inl e | inr t ↦ inr (inr t) ]

pub chosen_two : (es : List Edge) (f g : Edge) → AreFreeOf DoEdgesTangle es → IsChosen es f → IsChosen es g → IsOneOrFree f g
chosen_two es f g u (inl i) (inl j) = of_two es f g u i j
chosen_two es f g u (inl i) (inr j) = turned_second f g (of_two es f (back g) u i j)
chosen_two es f g u (inr i) (inl j) = turned_first f g (of_two es (back f) g u i j)
chosen_two es f g u (inr i) (inr j) = turned_first f g (turned_second (back f) g (of_two es (back f) (back g) u i j))

pub chosen_pieces : (es boundary next : List Edge) → AreFreeOf DoEdgesTangle es → AllByRecursion (IsChosen es) boundary → AllByRecursion (IsChosen es) next → AllByRecursion (λ f. AllByRecursion (λ g. (g ≡ f) ⊎ ((g ≡ back f) ⊎ ¬ (DoEdgesTangle f g))) next) boundary
chosen_pieces es boundary next u b n = all_map (IsChosen es) (λ f. AllByRecursion (IsOneOrFree f) next) (λ f i. all_map (IsChosen es) (IsOneOrFree f) (λ g j. chosen_two es f g u i j) next n) boundary b

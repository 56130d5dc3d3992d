-- A rule has one state, so rules have one listing; and how lines of states grow, rule by rule.
use Rattle.std.proofs.Common.{◌≡◌, ℕ, ◌+◌, ◌<◌, List, [], ◌∷◌, ◌++◌, length, take, get_or, Option, Some, None, refl, sym, ap, subst, ◌∙◌, arith, append_assoc, append-nil}
use Rattle.std.specs.List.{AllZip}
use Rattle.std.proofs.lemmas.List.{take_more, length-take}
use Rattle.std.proofs.lemmas.Slice.Zip.{all_zipped_more}
use Rattle.rule_reader.specs.declared.rule.Rule.{Rule}
use Rattle.rule_reader.specs.Normal.{normal_text}
use Rattle.rule_maps.specs.declared.inert.Inert.{Inert}
use Rattle.rule_maps.specs.declared.inert.Inert.TheVariants.{Unbalanced, BaseKept, NoElement, IdlePoint, BadZone}
use Rattle.rule_maps.specs.Inert.{IsLive, HasState}
use Rattle.netmesh_cli.specs.Listed.{state_line, state_lines, AreStateLines, IsListing}

-- ---- the state of a rule

-- a rule with a reason never to apply is not live
pub not_live : (r : Rule) (why : Inert) → HasState r (Some why) → ¬ IsLive r
not_live r Unbalanced has live = has live.balanced
not_live r BaseKept has live = live.base_leaves has.1
not_live r NoElement has live = live.some_element has.2
not_live r IdlePoint has live = live.none_idle has.3
not_live r BadZone has live = live.good_zone has.4

-- one reason is the first: of two, the later comes with the earlier one's contrary
one_reason : (r : Rule) (why other : Inert) → HasState r (Some why) → HasState r (Some other) → why ≡ other
one_reason r Unbalanced Unbalanced first second = refl
one_reason r Unbalanced BaseKept first second = absurd (first second.0)
one_reason r Unbalanced NoElement first second = absurd (first second.0)
one_reason r Unbalanced IdlePoint first second = absurd (first second.0)
one_reason r Unbalanced BadZone first second = absurd (first second.0)
one_reason r BaseKept Unbalanced first second = absurd (second first.0)
one_reason r BaseKept BaseKept first second = refl
one_reason r BaseKept NoElement first second = absurd (second.1 first.1)
one_reason r BaseKept IdlePoint first second = absurd (second.1 first.1)
one_reason r BaseKept BadZone first second = absurd (second.1 first.1)
one_reason r NoElement Unbalanced first second = absurd (second first.0)
one_reason r NoElement BaseKept first second = absurd (first.1 second.1)
one_reason r NoElement NoElement first second = refl
one_reason r NoElement IdlePoint first second = absurd (second.2 first.2)
one_reason r NoElement BadZone first second = absurd (second.2 first.2)
one_reason r IdlePoint Unbalanced first second = absurd (second first.0)
one_reason r IdlePoint BaseKept first second = absurd (first.1 second.1)
one_reason r IdlePoint NoElement first second = absurd (first.2 second.2)
one_reason r IdlePoint IdlePoint first second = refl
one_reason r IdlePoint BadZone first second = absurd (second.3 first.3)
one_reason r BadZone Unbalanced first second = absurd (second first.0)
one_reason r BadZone BaseKept first second = absurd (first.1 second.1)
one_reason r BadZone NoElement first second = absurd (first.2 second.2)
one_reason r BadZone IdlePoint first second = absurd (first.3 second.3)
one_reason r BadZone BadZone first second = refl

one_state : (r : Rule) (state other : Option Inert) → HasState r state → HasState r other → state ≡ other
one_state r None None first second = refl
one_state r None (Some why) first second = absurd (not_live r why second first)
one_state r (Some why) None first second = absurd (not_live r why first second)
one_state r (Some why) (Some other) first second = ap Some (one_reason r why other first second)

-- ---- the states of rules

one_each : (rules : List Rule) (states others : List (Option Inert)) → AllZip HasState rules states → AllZip HasState rules others → states ≡ others
one_each [] [] [] first second = refl
one_each [] [] (_ ∷ _) first second = absurd second
one_each [] (_ ∷ _) others first second = absurd first
one_each (r ∷ rules) [] others first second = absurd first
one_each (r ∷ rules) (_ ∷ _) [] first second = absurd second
one_each (r ∷ rules) (state ∷ states) (other ∷ others) first second =
    let heads = one_state r state other first.0 second.0 in
    let tails = one_each rules states others first.1 second.1 in
    λ i. heads i ∷ tails i

-- rules have one listing
pub one_text : (rules : List Rule) (text other : List ℕ) → IsListing rules text → IsListing rules other → text ≡ other
one_text rules text other first second =
    let same = one_each rules first.states.states second.states.states first.states.each second.states.each in
    first.whole ∙ ap (λ (lines : List ℕ). lines ++ (10 ∷ normal_text rules)) (first.states.are ∙ ap (state_lines 1 rules) same ∙ sym second.states.are) ∙ sym second.whole

-- ---- lines of states

-- the lines of rules and one more
grown : (number : ℕ) (rules : List Rule) (states : List (Option Inert)) (r : Rule) (state : Option Inert) → AllZip HasState rules states → state_lines number (rules ++ r ∷ []) (states ++ state ∷ []) ≡ state_lines number rules states ++ state_line (number + length rules) state r
grown number [] [] r state each = append-nil (state_line number state r) ∙ ap (λ (n : ℕ). state_line n state r) (omega arith)
grown number [] (_ ∷ _) r state each = absurd each
grown number (x ∷ rules) [] r state each = absurd each
grown number (x ∷ rules) (s ∷ states) r state each =
    ap (λ (lines : List ℕ). state_line number s x ++ lines) (grown (number + 1) rules states r state each.1)
    ∙ sym (append_assoc (state_line number s x) (state_lines (number + 1) rules states) (state_line (number + 1 + length rules) state r))
    ∙ ap (λ (n : ℕ). (state_line number s x ++ state_lines (number + 1) rules states) ++ state_line n state r) (omega arith)

-- the line of the next rule, at the end of those of the rules before it
pub lines_next : (rules : List Rule) (k : ℕ) (r : Rule) (lines now : List ℕ) → k < length rules → r ≡ get_or rules k r → AreStateLines (take k rules) lines → (state : Option Inert) × HasState r state × (now ≡ lines ++ state_line (k + 1) state r) → AreStateLines (take (k + 1) rules) now
lines_next rules k r lines now within at before next =
    subst (λ (some : List Rule). AreStateLines some now) (ap (λ (x : Rule). take k rules ++ x ∷ []) at ∙ sym (take_more rules k r within)) (record {
      states = before.states ++ next.0 ∷ [];
      each = all_zipped_more HasState (take k rules) before.states r next.0 before.each next.1;
      are = next.2
          ∙ ap (λ (some : List ℕ). some ++ state_line (k + 1) next.0 r) before.are
          ∙ ap (λ (n : ℕ). state_lines 1 (take k rules) before.states ++ state_line n next.0 r) (omega (arith, length-take k rules, within))
          ∙ sym (grown 1 (take k rules) before.states r next.0 before.each);
    })

-- The lines of a rule whose indices name points go from point to point.
use Rattle.std.proofs.Common.{◌≡◌, ℕ, zero, suc, ◌+◌, ◌<◌, Bool, true, false, not, ◌||◌, eqb, ltb, List, [], ◌∷◌, ◌++◌, length, Some, refl, sym, subst, arith}
use Rattle.std.specs.Prelude.{unwrap_or}
use Rattle.std.specs.List.{AllByRecursion}
use Rattle.std.proofs.lemmas.Bool.{eqb-true, eqb-false, ltb-false}
use Rattle.rule_reader.specs.declared.reader.Bound.{Bound}
use Rattle.rule_reader.specs.declared.reader.Bound.TheVariants.{First, Second, Mapped, Any}
use Rattle.rule_reader.specs.declared.rule.MapLine.{MapLine}
use Rattle.rule_reader.specs.declared.rule.Rule.{Rule}
use Rattle.rule_reader.specs.declared.sections.Parts.{Parts}
use Rattle.rule_reader.specs.declared.sections.SectionKind.{SectionKind}
use Rattle.rule_reader.specs.declared.sections.SectionKind.TheVariants as kind
use Rattle.rule_reader.specs.Verdict.{misses}
use Rattle.rule_reader.specs.Sections.{rule_word, endrule_word, empty_parts}
use Rattle.rule_reader.specs.Grammar.{Limits, Said, ◌▹◌, done, many, at_most, mark, name, index, quality, marks, ends, line, map_point, map_line, place, pair, element, turn, section_word, content, section, sections, any_sections, rule_name, rule_said, Hits}
use Rattle.rule_reader.specs.Graph.{IsPoint, HasEnds}

-- each index names a point that it may name, where there are so many mapped and new points
abbrev pub AllHit : ℕ → ℕ → List Said → Type 0
AllHit points new_points said = AllByRecursion (λ s. Hits points new_points s.index) said

hits_front : (p q : ℕ) (a b : List Said) → AllHit p q (a ++ b) → AllHit p q a
hits_front p q [] b all = tt
hits_front p q (s ∷ a) b all = (all.0, hits_front p q a b all.1)

hits_back : (p q : ℕ) (a b : List Said) → AllHit p q (a ++ b) → AllHit p q b
hits_back p q [] b all = all
hits_back p q (s ∷ a) b all = hits_back p q a b all.1

split : {A B : Type 0} (L : List Said → A → Type 0) (M : A → List Said → B → Type 0) (p q : ℕ) (said : List Said) (y : B) → (L ▹ M) said y → AllHit p q said → (x : A) × (front : List Said) × (back : List Said) × L front x × AllHit p q front × M x back y × AllHit p q back
unfolding ◌▹◌
split L M p q said y l all =
    let both = subst (λ (s : List Said). AllHit p q s) l.5 all in
    (l.0, l.1, l.2, l.3, hits_front p q l.1 l.2 both, l.4, hits_back p q l.1 l.2 both)

index_hits : (p q : ℕ) (bound : Bound) (said : List Said) (n : ℕ) → index bound said n → AllHit p q said → misses bound n p q ≡ false
unfolding index
index_hits p q bound said n l all = let one = subst (λ (s : List Said). AllHit p q s) l.1 all in one.0

neither : (a b : Bool) → a || b ≡ false → (a ≡ false) × (b ≡ false)
neither false b e = (refl, e)
neither true b e = absurd cc

not_false : (a : Bool) → not a ≡ false → a ≡ true
not_false true e = refl
not_false false e = absurd cc

-- a bound of a mapped line
abbrev IsLineBound : Bound → Type 0
IsLineBound First = Unit {0}
IsLineBound Second = Unit {0}
IsLineBound Mapped = Unit {0}
IsLineBound Any = ⊥

point_hit : (bound : Bound) (n p q : ℕ) → IsLineBound bound → misses bound n p q ≡ false → IsPoint p n
point_hit First n p q b e =
    let h = neither (not (eqb n 1)) (ltb p 1) e in
    let is : n ≡ 1 = eqb-true n 1 (not_false (eqb n 1) h.0) in
    (omega (arith, is), omega (arith, is, ltb-false p 1 h.1))
point_hit Second n p q b e =
    let h = neither (not (eqb n 2)) (ltb p 2) e in
    let is : n ≡ 2 = eqb-true n 2 (not_false (eqb n 2) h.0) in
    (omega (arith, is), omega (arith, is, ltb-false p 2 h.1))
point_hit Mapped n p q b e =
    let h = neither (eqb n 0) (ltb p n) e in
    (positive n (eqb-false n 0 h.0), ltb-false p n h.1)
  where
    positive : (n : ℕ) → (n ≡ 0 → ⊥) → 0 < n
    positive zero other = absurd (other refl)
    positive (suc n) other = omega arith
point_hit Any n p q b e = absurd b

ends_points : (p q : ℕ) (first second : Bound) → IsLineBound first → IsLineBound second → (said : List Said) (e : ℕ × ℕ) → ends first second said e → AllHit p q said → IsPoint p e.0 × IsPoint p e.1
unfolding done
ends_points p q first second a b said e l all =
    let s1 = split (mark 40) _ p q said e l all in
    let s2 = split (index first) _ p q s1.2 e s1.5 s1.6 in
    let s3 = split (mark 44) _ p q s2.2 e s2.5 s2.6 in
    let s4 = split (index second) _ p q s3.2 e s3.5 s3.6 in
    let s5 = split (mark 41) _ p q s4.2 e s4.5 s4.6 in
    let both : IsPoint p s2.0 × IsPoint p s4.0 = (point_hit first s2.0 p q a (index_hits p q first s2.1 s2.0 s2.3 s2.4), point_hit second s4.0 p q b (index_hits p q second s4.1 s4.0 s4.3 s4.4)) in
    subst (λ (x : ℕ × ℕ). IsPoint p x.0 × IsPoint p x.1) (sym s5.5.1) both

line_ends : (p q : ℕ) (first second : Bound) → IsLineBound first → IsLineBound second → (said : List Said) (v : MapLine) → line first second said v → AllHit p q said → HasEnds p v
unfolding done
line_ends p q first second a b said v l all =
    let s1 = split (ends first second) _ p q said v l all in
    let s2 = split marks _ p q s1.2 v s1.5 s1.6 in
    let s3 = split (mark 59) _ p q s2.2 v s2.5 s2.6 in
    subst (HasEnds p) (sym s3.5.1) (ends_points p q first second a b s1.1 s1.0 s1.3 s1.4)

map_line_ends : (p q k : ℕ) (said : List Said) (v : MapLine) → map_line k said v → AllHit p q said → HasEnds p v
map_line_ends p q zero said v l all = line_ends p q First Second tt tt said v l all
map_line_ends p q (suc k) said v l all = line_ends p q Mapped Mapped tt tt said v l all

lines_ends : (p q k : ℕ) (said : List Said) (lines : List MapLine) → many map_line k said lines → AllHit p q said → AllByRecursion (HasEnds p) lines
unfolding many
lines_ends p q k said [] l all = tt
lines_ends p q k said (v ∷ lines) l all =
    let both = subst (λ (s : List Said). AllHit p q s) l.4 all in
    (map_line_ends p q k l.0 v l.2 (hits_front p q l.0 l.1 both), lines_ends p q (k + 1) l.1 lines l.3 (hits_back p q l.0 l.1 both))

-- the lines among these parts go from point to point
abbrev LinesFit : ℕ → Parts → Type 0
LinesFit p parts = AllByRecursion (HasEnds p) (unwrap_or parts.lines [])

placed_fit : {A : Type 0} (L : List Said → A → Type 0) (put : A → Parts) (p q : ℕ) → ((x : A) → LinesFit p (put x)) → (said : List Said) (v : Parts) → (L ▹ λ x. done (put x)) said v → AllHit p q said → LinesFit p v
unfolding done
placed_fit L put p q fits said v l all = let s = split L (λ x. done (put x)) p q said v l all in subst (LinesFit p) (sym s.5.1) (fits s.0)

content_fits : (most : Limits) (p q : ℕ) (parts : Parts) (k : SectionKind) (said : List Said) (v : Parts) → content most parts k said v → AllHit p q said → LinesFit p parts → LinesFit p v
unfolding at_most done
content_fits most p q parts kind.Quality said v l all fits = placed_fit quality (λ x. record parts { quality = Some x }) p q (λ x. fits) said v l all
content_fits most p q parts kind.MapPoints said v l all fits = placed_fit (at_most (most 2) map_point) (λ x. record parts { points = Some x }) p q (λ x. fits) said v l all
content_fits most p q parts kind.MapLines said v l all fits =
    let s = split (at_most (most 3) map_line) (λ x. done (record parts { lines = Some x })) p q said v l all in
    subst (LinesFit p) (sym s.5.1) (lines_ends p q 0 s.1 s.0 s.3.0 s.4)
content_fits most p q parts kind.NewPoints said v l all fits = placed_fit (at_most (most 4) (place most)) (λ x. record parts { new_points = Some x }) p q (λ x. fits) said v l all
content_fits most p q parts kind.NewLines said v l all fits = placed_fit (at_most (most 5) pair) (λ x. record parts { new_lines = Some x }) p q (λ x. fits) said v l all
content_fits most p q parts kind.FreeArea said v l all fits = placed_fit (at_most (most 6) (place most)) (λ x. record parts { area = Some x }) p q (λ x. fits) said v l all
content_fits most p q parts kind.FreeArea2 said v l all fits = placed_fit (at_most (most 7) (place most)) (λ x. record parts { limit = Some x }) p q (λ x. fits) said v l all
content_fits most p q parts kind.Elements said v l all fits = placed_fit (at_most (most 8) element) (λ x. record parts { elements = Some x }) p q (λ x. fits) said v l all
content_fits most p q parts kind.Orientations said v l all fits = placed_fit (at_most (most 9) turn) (λ x. record parts { turns = Some x }) p q (λ x. fits) said v l all

sections_fit : (most : Limits) (p q count : ℕ) (parts : Parts) (said : List Said) (v : Parts) → sections most count parts said v → AllHit p q said → LinesFit p parts → LinesFit p v
unfolding sections done
sections_fit most p q zero parts said v l all fits = subst (LinesFit p) (sym l.1) fits
sections_fit most p q (suc count) parts said v l all fits =
    let s = split (section most parts) (sections most count) p q said v l all in
    let w = split (section_word parts) (content most parts) p q s.1 s.0 s.3 s.4 in
    sections_fit most p q count s.0 s.2 v s.5 s.6 (content_fits most p q parts w.0 w.2 s.0 w.5 w.6 fits)

-- the lines of a rule
pub rule_lines : (most : Limits) (p q : ℕ) (said : List Said) (rule : Rule) → rule_said most said rule → AllHit p q said → AllByRecursion (HasEnds p) rule.lines
unfolding any_sections done
rule_lines most p q said rule l all =
    let s1 = split (name rule_word) _ p q said rule l all in
    let s2 = split (rule_name most) _ p q s1.2 rule s1.5 s1.6 in
    let s3 = split (any_sections most) _ p q s2.2 rule s2.5 s2.6 in
    let s4 = split (name endrule_word) _ p q s3.2 rule s3.5 s3.6 in
    subst (λ (r : Rule). AllByRecursion (HasEnds p) r.lines) (sym s4.5.1) (sections_fit most p q s3.3.0 empty_parts s3.1 s3.0 s3.3.1 s3.4 tt)

pub some_points : (p : ℕ) (lines : List MapLine) → AllByRecursion (HasEnds p) lines → 0 < length lines → 0 < p
some_points p [] all some = absurd (omega arith)
some_points p (line ∷ lines) all some = omega (arith, all.0.0.0, all.0.0.1)

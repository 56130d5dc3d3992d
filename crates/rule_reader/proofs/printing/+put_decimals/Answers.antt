use Rattle.std.proofs.Common.{◌≡◌, ◌≢◌, ℕ, zero, suc, ◌-◌, ◌+◌, ◌/◌, ◌%◌, ◌^◌, ◌<◌, List, [], ◌∷◌, ◌++◌, refl, sym, ap, ◌∙◌, append_assoc, arith}
use Rattle.std.proofs.Math.Nat.{one-le-pow, mod-lt}
use Rattle.std.proofs.lemmas.Bool.{ne_eqb}
use Rattle.rule_reader.specs.Normal.{decimals}
use Rattle.rule_reader.proofs.printing.+put_decimals.Goals as goal

ten_some : (k unit : ℕ) → unit ≡ 10 ^ k → 0 < unit
ten_some k unit e = omega (arith, one-le-pow k 10 (omega arith), e)

below : (k unit part : ℕ) → unit ≡ 10 ^ k → part % unit < 10 ^ k
below k unit part e = let lt : part % unit < unit = mod-lt part (ten_some k unit e) in omega (arith, lt, e)

decimals_step : (places part unit : ℕ) → places ≢ 0 → part ≢ 0 → unit ≡ 10 ^ (places - 1) → decimals places part ≡ (48 + part / unit) ∷ decimals (places - 1) (part % unit)
decimals_step zero part unit some any e = absurd (some refl)
decimals_step (suc p) part unit some any e = let k : suc p - 1 ≡ p = omega arith in rw (ne_eqb part 0 any, e, k) refl

one_more : (old pushed new d all : List ℕ) (x : ℕ) → pushed ≡ old ++ x ∷ [] → new ≡ pushed ++ d → all ≡ x ∷ d → new ≡ old ++ all
one_more old pushed new d all x p n a = n ∙ ap (λ (t : List ℕ). t ++ d) p ∙ append_assoc old (x ∷ []) d ∙ ap (λ (t : List ℕ). old ++ t) (sym a)

pub nonzero_div-part : goal.nonzero_div-part
nonzero_div-part t c = ten_some (c.args.places - 1) c.pow-unit.result c.pow-unit.ensures

pub nonzero_rem-part : goal.nonzero_rem-part
nonzero_rem-part t c = ten_some (c.args.places - 1) c.pow-unit.result c.pow-unit.ensures

pub put_decimals-requires : goal.put_decimals-requires
put_decimals-requires t c = (omega (arith, c.decreases, c.if-places-eq0.false), (omega (arith, c.requires.few), below (c.args.places - 1) c.pow-unit.result c.args.part c.pow-unit.ensures))

pub returns : goal.returns
returns t c =
    one_more c.args.out.now.items c.push.new.self.items c.put_decimals.new.out.items (decimals (c.args.places - 1) (c.args.part % c.pow-unit.result)) (decimals c.args.places c.args.part) _
    c.in_ok-push.ensures.items c.in_ok-put_decimals.ensures (decimals_step c.args.places c.args.part c.pow-unit.result c.if-places-eq0.false c.if-part-eq0.false c.pow-unit.ensures)

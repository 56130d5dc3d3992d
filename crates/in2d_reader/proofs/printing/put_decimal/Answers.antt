use Rattle.std.proofs.Common.{◌∙◌, sym}
use Rattle.in2d_reader.proofs.Texts.{put_plain_is, put_power_is}
use Rattle.in2d_reader.proofs.printing.put_decimal.Goals as goal

pub returns-then-is_plain : goal.returns-then-is_plain
returns-then-is_plain c =
    put_plain_is c.args.dec.now c.args.out.now.items c.put_sign.new.out.items c.put_plain.new.out.items c.as_bytes.result.now c.size_of.result c.places_of.result (sym c.is_plain.ensures ∙ c.if-is_plain.true)
    c.in_ok-put_sign.ensures (c.as_bytes.ensures.value ∙ c.in_ok-digits.ensures.ok) c.size_of.ensures c.places_of.ensures.value c.in_ok-put_plain.ensures

pub returns : goal.returns
returns c =
    put_power_is c.args.dec.now c.args.out.now.items c.put_sign.new.out.items c.extend_from_slice.new.self.items c.put_power.new.out.items c.as_bytes-2.result.now c.size_of.result (sym c.is_plain.ensures ∙ c.if-is_plain.false)
    c.in_ok-put_sign.ensures (c.as_bytes-2.ensures.value ∙ c.in_ok-digits.ensures.ok) c.size_of.ensures c.in_ok-extend_from_slice.ensures.items c.in_ok-put_power.ensures

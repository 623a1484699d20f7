use Rattle.std.proofs.Common.{◌||◌, ◌&&◌, nat_le, sym, ap, ◌∙◌, arith}
use Rattle.std.specs.Int.{is_in_range}
use Rattle.num_spell.specs.Digits.{is_digit_of}
use Rattle.num_spell.proofs.WildLemmas.{decimal_from, hex_from}
use Rattle.num_spell.proofs.wild_expression.digits_from.Goals as goal

pub returns-in-Unsigned : goal.returns-in-Unsigned
returns-in-Unsigned c = λ b low.
    c.insert_range.ensures b low ∙ ap (λ v. v || is_in_range c.args.first 57 b) (c.empty-digits.ensures b low)
    ∙ decimal_from c.args.first b c.requires.low c.requires.high
    ∙ ap (λ kind. is_digit_of kind b && nat_le c.args.first b) (sym c.in-Unsigned.is)

pub returns-in-Signed : goal.returns-in-Signed
returns-in-Signed c = λ b low.
    c.insert_range.ensures b low ∙ ap (λ v. v || is_in_range c.args.first 57 b) (c.empty-digits.ensures b low)
    ∙ decimal_from c.args.first b c.requires.low c.requires.high
    ∙ ap (λ kind. is_digit_of kind b && nat_le c.args.first b) (sym c.in-Signed.is)

pub returns-in-LowerHex : goal.returns-in-LowerHex
returns-in-LowerHex c = λ b low.
    c.insert_range-in-LowerHex.ensures b low
    ∙ ap (λ v. v || is_in_range 97 102 b) (c.insert_range.ensures b low
    ∙ ap (λ v. v || is_in_range c.args.first 57 b) (c.empty-digits.ensures b low))
    ∙ hex_from c.args.first 97 b c.requires.low c.requires.high (omega arith)
    ∙ ap (λ kind. is_digit_of kind b && nat_le c.args.first b) (sym c.in-LowerHex.is)

pub returns-in-UpperHex : goal.returns-in-UpperHex
returns-in-UpperHex c = λ b low.
    c.insert_range-in-UpperHex.ensures b low
    ∙ ap (λ v. v || is_in_range 65 70 b) (c.insert_range.ensures b low
    ∙ ap (λ v. v || is_in_range c.args.first 57 b) (c.empty-digits.ensures b low))
    ∙ hex_from c.args.first 65 b c.requires.low c.requires.high (omega arith)
    ∙ ap (λ kind. is_digit_of kind b && nat_le c.args.first b) (sym c.in-UpperHex.is)

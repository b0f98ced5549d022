use Rattle.std.proofs.Common.{rules, ◌≡◌, ◌+◌, ◌-◌, ◌*◌, ◌<◌, length, get_or, true, arith}
use Rattle.script_reader.specs.Pieces.{is_digit}
use Rattle.script_reader.proofs.Numbers.{digit_passes_most}
use Rattle.script_reader.proofs.number.read_digits.Goals as goal

pub returns-then-number-most : goal.returns-then-number-most
returns-then-number-most c =
    let word = c.args.word.now in
    let i = c.loop-digit.digit-index in
    let within : i < length word = omega arith in
    let digit : is_digit (get_or word i 0) ≡ true = search rules in
    let big : c.args.most < c.loop-digit.number * 10 + (get_or word i 0 - 48) = omega (arith, c.from.ensures) in
    record { exact = digit_passes_most c.args.most c.loop-digit.number i word c.loop-digit.invariant.rest within digit big }

-- antt computes what each line says.
use Rattle.std.proofs.Common.{refl}
use Rattle.std.specs.Fmt as Fmt
use Rattle.bits.specs.Bits.{bit_at, bits_of, bytes_bits, differ}
use Rattle.bits.specs.Crc.{covered, crc_from, crc_step, doubled}
use Rattle.frame.specs.Fields.{fields}
use Rattle.frame.specs.Line.{line}
use Rattle.frame.specs.Stuffing.{run, stuff}
use Rattle.console.specs.Answers.{answer}
use Rattle.console.specs.Numeral.{number_in}
use Rattle.console.specs.Reading.{before_colon, in_front, numbers, letter_of, letter_words, line_words, command_words, reading}
use Rattle.console.specs.Refusals.{bad_byte, bad_letter}
use Rattle.console.specs.Sessions.{after}
use Rattle.console.proofs.laws.examples.Goals as goal

pub returns : goal.returns
unfolding Fmt.digits bit_at bits_of bytes_bits differ covered crc_from crc_step doubled fields line run stuff number_in before_colon in_front numbers letter_of letter_words line_words command_words reading bad_byte bad_letter answer after
returns c = record {
  empty = refl;
  plain = refl;
  no_bytes = refl;
  zeros = refl;
  two_spaces = refl;
  space_behind = refl;
  spaces = refl;
  no_colon = refl;
  line = refl;
  line_space = refl;
  line_name = refl;
  large_name = refl;
  nine_bytes = refl;
  large_name_text = refl;
  large_byte = refl;
  no_command = refl;
  no_command_text = refl;
  line_at_first = refl;
  line_of_5 = refl;
}

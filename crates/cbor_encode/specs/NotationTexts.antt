-- The messages of the errors.
use Rattle.std.specs.Prelude.{ℕ, List, ◌++◌, codes, decimal}
use Rattle.cbor_encode.specs.declared.Expected.{Expected}
use Rattle.cbor_encode.specs.declared.Expected.TheVariants as e
use Rattle.cbor_encode.specs.declared.NotationError.{NotationError}

-- The text that `{}` writes for an expected part of the notation. For `Digit` it is "a digit".
abbrev pub expected_text : Expected → List ℕ
expected_text e.Item = codes "an item"
expected_text e.End = codes "the end of the text"
expected_text e.Space = codes "a comma or white space"
expected_text e.Comma = codes "a comma or a closing bracket"
expected_text e.Colon = codes "a colon and a value"
expected_text e.Parenthesis = codes "a closing parenthesis"
expected_text e.Digit = codes "a digit"
expected_text e.HexDigits = codes "two hexadecimal digits or a quote"
expected_text e.Base64 = codes "digits of base 64 and a quote"
expected_text e.Escape = codes "a character or an escape of JSON"
expected_text e.Quote = codes "a closing quote"
expected_text e.Comment = codes "a slash that closes this comment"
expected_text e.Chunk = codes "a string of the same kind"
expected_text e.Integer = codes "an integer from -2^64 to 2^64 - 1"
expected_text e.Float = codes "a finite float"
expected_text e.Bits = codes "4, 8 or 16 hexadecimal digits and a quote"
expected_text e.Simple = codes "a simple value from 0 to 23 or from 32 to 255"
expected_text e.Mark = codes "a mark whose width is enough"
expected_text e.NoMark = codes "no mark"
expected_text e.Text = codes "UTF-8"
expected_text e.Level = codes "fewer levels"
expected_text e.Memory = codes "more memory"

-- The text that `{}` writes for an error: its line, its column and the expected part, as in "line 1, column 3: expected
-- a digit".
abbrev pub error_text : NotationError → List ℕ
error_text error =
    codes "line " ++ decimal error.line ++ codes ", column " ++ decimal error.column ++ codes ": expected "
    ++ expected_text error.expected

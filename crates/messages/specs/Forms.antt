-- The forms of a piece, by its first byte.
use Rattle.std.specs.Prelude.{ℕ, ◌==◌, if◌then◌else◌, Option, Some, None}
use Rattle.messages.specs.declared.form.Form.{Form}
use Rattle.messages.specs.declared.form.Form.TheVariants.{Short, Alone, First, Middle, Last}

abbrev pub form_byte : Form → ℕ
form_byte Short = 0
form_byte Alone = 1
form_byte First = 2
form_byte Middle = 3
form_byte Last = 4

abbrev pub form_of : ℕ → Option Form
form_of b =
    if b == 0 then Some Short
    else (if b == 1 then Some Alone
    else (if b == 2 then Some First
    else (if b == 3 then Some Middle
    else (if b == 4 then Some Last else None))))

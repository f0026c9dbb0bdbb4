-- The codes of breaches, and their texts.
use Rattle.std.specs.Prelude.{ℕ, ◌==◌, List, [], ◌∷◌, Option, Some, None, IsSome, codes}
use Rattle.std.specs.Prelude.{if◌then◌else◌}

-- the text of each code
unfoldable pub texts : List (ℕ × List ℕ)
texts =
    (101, codes "file is not UTF-8")
    ∷ (102, codes "comment is not closed")
    ∷ (103, codes "integer literal is too large")
    ∷ (104, codes "character outside the profile")
    ∷ (105, codes "too many tokens")
    ∷ (201, codes "unexpected token")
    ∷ (202, codes "nested too deeply")
    ∷ (301, codes "name is declared twice")
    ∷ (302, codes "unknown type")
    ∷ (303, codes "value type holds itself")
    ∷ (304, codes "not exactly one entry")
    ∷ (305, codes "property has no value")
    ∷ (306, codes "initial value outside the profile")
    ∷ (307, codes "more than 64 parts")
    ∷ (401, codes "unknown name")
    ∷ (402, codes "types do not fit")
    ∷ (403, codes "arguments do not fit")
    ∷ (404, codes "cannot assign to a constant")
    ∷ (405, codes "switch does not fit its enum")
    ∷ (406, codes "a way ends without a result")
    ∷ (407, codes "no such member")
    ∷ (408, codes "nothing to leave here")
    ∷ (501, codes "isolated member used from outside")
    ∷ (502, codes "await is missing")
    ∷ (503, codes "asynchronous call in a synchronous body")
    ∷ (504, codes "written from outside its actor")
    ∷ (505, codes "global variable is not isolated")
    ∷ (510, codes "more than 512 registers")
    ∷ (511, codes "more than 16384 points")
    ∷ (601, codes "Sendable is not met")
    ∷ (602, codes "captured value is not Sendable")
    ∷ (603, codes "captured variable is mutable")
    ∷ (604, codes "result is not Sendable")
    ∷ (605, codes "task result is not Sendable")
    ∷ (606, codes "property is not Sendable")
    ∷ (701, codes "used after being given away")
    ∷ (702, codes "value is isolated to an actor")
    ∷ (703, codes "value is isolated to this task")
    ∷ (704, codes "result is not disconnected")
    ∷ []

-- the text that a list of codes and texts has for a code
abbrev pub text_in : List (ℕ × List ℕ) → ℕ → Option (List ℕ)
text_in [] code = None
text_in (row ∷ rows) code = if row.0 == code then Some row.1 else text_in rows code

-- what a code means
unfoldable pub text_of : ℕ → Option (List ℕ)
text_of code = text_in texts code

-- the number is the code of some breach
abbrev pub IsCode : ℕ → Type 0
IsCode code = IsSome (text_of code)

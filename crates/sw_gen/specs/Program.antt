-- The text of the program that is generated for a number of actors.
use Rattle.std.specs.Prelude.{ℕ, ◌==◌, List, [], ◌∷◌, ◌++◌, codes, flat_map}
use Rattle.std.specs.Prelude.{if◌then◌else◌}
use Rattle.std.specs.List.{range_with_len}
use Rattle.std.specs.Fmt.{decimal}

-- the text and the end of its line
abbrev pub line : List ℕ → List ℕ
line text = text ++ 10 ∷ []

-- the digits in the place of a `#`, the byte 35, and any other byte as it is
abbrev pub piece : List ℕ → ℕ → List ℕ
piece digits byte = if byte == 35 then digits else byte ∷ []

-- the template with the number in the place of each `#`
abbrev pub filled : List ℕ → ℕ → List ℕ
filled template number = flat_map (piece (decimal number)) template

-- an actor, and a function that calls it from a task and prints what it returns
abbrev pub block : List ℕ
block = line (codes "actor A# {")
    ++ (line (codes "  var n = 0")
    ++ (line (codes "  func add(_ k: Int) -> Int {")
    ++ (line (codes "    n += k")
    ++ (line (codes "    return n")
    ++ (line (codes "  }")
    ++ (line (codes "}")
    ++ (line (codes "func f#() async {")
    ++ (line (codes "  let a = A#()")
    ++ (line (codes "  let t = Task.detached { await a.add(#) }")
    ++ (line (codes "  print(await t.value)")
    ++ line (codes "}")))))))))))

-- the lines before and after the calls of the entry, and each call
abbrev pub entry_start : List ℕ
entry_start = line (codes "@main struct App {") ++ line (codes "  static func main() async {")

abbrev pub call : List ℕ
call = line (codes "    await f#()")

abbrev pub entry_end : List ℕ
entry_end = line (codes "  }") ++ line (codes "}")

-- the blocks of the numbers from 1 to n, and an entry that calls their functions in turn
unfoldable pub program : ℕ → List ℕ
program n =
    let numbers = range_with_len 1 n in
    flat_map (filled block) numbers
    ++ (entry_start ++ (flat_map (filled call) numbers ++ entry_end))

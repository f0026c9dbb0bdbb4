-- Blocks: how statements are read one after another, and what is read of a block with `async let`s.
use Rattle.std.specs.Prelude.{ℕ, Bool, Result, Ok, Err, List, [], codes}
use Rattle.sw_grammar_forms.specs.Reader.{Reader, skipping, then_read}
use Rattle.sw_grammar_forms.specs.Form.Form.{more_items}
use Rattle.sw_grammar_forms.specs.Terminals.{items}
use Rattle.sw_grammar_forms.specs.declared.stop.Stop.{Stop}
use Rattle.sw_tree.specs.declared.stmt.Stmt.{Stmt}
use Rattle.sw_grammar.specs.Around.{Around}
use Rattle.sw_grammar.specs.Reading.{read}
use Rattle.sw_grammar.specs.Stmts.{Body, async_parts, begun, joined, stmt}
use Rattle.sw_parse_parts.specs.Nested.{made}

-- statements one after another, and whether a `;` ends the last
abbrev pub Items : Type 0
Items = List Stmt × Bool

-- reads statements, up to a token that begins none, where a `;` may have ended what is before them
abbrev pub items_after : Around → ℕ → Bool → Reader Items
items_after around depth ended =
    made (λ state. (joined state.0, state.1))
    (read around depth (more_items ([], ended) (stmt around)))

-- reads the statements after an `async let`, which a `;` may end
abbrev pub items_behind : Around → ℕ → Reader Items
items_behind around depth =
    then_read (skipping (codes ";")) (λ ended. items_after around depth ended)

-- what is read of a block that begins with these statements
abbrev pub beginning : Around → Items → Body
beginning around items =
    record { stmts = items.0; ended = items.1; tasks = around.here.tasks }

-- the statements of a block
abbrev pub items_of : Body → Items
items_of body = (body.stmts, body.ended)

-- reads statements and `async let`s, up to a token that begins neither
abbrev pub block_items : Around → ℕ → Reader Body
block_items around depth =
    then_read (read around depth (items (stmt around))) (λ first.
    read around depth (async_parts around (begun around first)))

-- what is read of a part, by its statements and the words that stand for tasks behind it
abbrev pub part_of : List (List ℕ) → Result Items Stop → Result Body Stop
part_of tasks (Ok items) = Ok (record { stmts = items.0; ended = items.1; tasks = tasks })
part_of tasks (Err stop) = Err stop

-- Operators with their right operands, turn by turn as a loop of the code reads them.
use Rattle.std.proofs.Common.{◌≡◌, ◌<◌, ℕ, true, false, List, [], ◌∷◌, ◌++◌, length}
use Rattle.std.specs.Prelude.{Ok}
use Rattle.sw_token.specs.Spelling.{Spelled}
use Rattle.sw_grammar_forms.specs.Sets.{starts}
use Rattle.sw_grammar_forms.specs.Form.{Shape, Terminal, one, empty, seq, star}
use Rattle.sw_grammar_forms.specs.Relations.{head}
use Rattle.sw_grammar_forms.specs.Reader.{Answer, Reader}
use Rattle.sw_grammar_forms.proofs.ItemLoops.{Refuses}
use Rattle.sw_grammar_forms.proofs.ListLoops as loops
use Rattle.sw_tree.specs.declared.operator.InfixOp.{InfixOp}
use Rattle.sw_tree.specs.declared.expr.Expr.{Expr}
use Rattle.sw_tree.specs.declared.expr.Link.{Link as Operand}
use Rattle.sw_grammar.specs.Around.{Around}
use Rattle.sw_grammar.specs.Nests.{El, shape_of, Form}
use Rattle.sw_grammar.specs.Grammar.{body, good}
use Rattle.sw_grammar.specs.Exprs.{linked}
use Rattle.sw_grammar.specs.Reading.{read}
use Rattle.sw_parse_expr.specs.Parts.{links_after, link_with}

module _ (around : Around) (depth : ℕ) {s : Shape} (t : Terminal (InfixOp × ℕ))
    (item : Form s Expr) (ok : (star (seq (one t) (seq s empty))).ok ≡ true) where
  -- the answer of all, of which some are read
  abbrev pub Links : List Operand → Reader (List Operand)
  Links links = read around depth (links_after links t item)

  abbrev pub OneLink : Reader Operand
  OneLink = link_with t (read around depth item)

  pub link_turn : (start : Answer (List Operand)) (ts us : List Spelled) (links : List Operand)
      (link : Operand) → Links links ts ≡ start → OneLink ts ≡ Ok (link, us)
      → Links (links ++ link ∷ []) us ≡ start
  link_turn start ts us links link same e =
      loops.one_turn El shape_of (body around.id_of) good depth t item linked ok start ts us links
      link same e

  pub stops_at_link : (start : Answer (List Operand)) (ts : List Spelled) (links : List Operand)
      → starts t.set (head ts) ≡ true → Links links ts ≡ start → Refuses (OneLink ts) start
  stops_at_link start ts links goes same =
      loops.stops_at_one El shape_of (body around.id_of) good depth t item linked ok start ts links
      goes same

  pub link_shorter : (ts us : List Spelled) (link : Operand) → OneLink ts ≡ Ok (link, us)
      → length us < length ts
  link_shorter ts us link e =
      loops.shorter El shape_of (body around.id_of) good depth t item linked ok ts us link e

  pub links_read : (start : Answer (List Operand)) (ts : List Spelled) (links : List Operand)
      → starts t.set (head ts) ≡ false → Links links ts ≡ start → start ≡ Ok (links, ts)
  links_read start ts links ends same =
      loops.all_read El shape_of (body around.id_of) good depth t item linked ok start ts links ends
      same

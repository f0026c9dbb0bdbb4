-- Closures and tasks.
use Rattle.std.specs.Prelude.{Option, Some, None, List, [], ◌∷◌, ◌++◌, codes}
use Rattle.sw_grammar_forms.specs.Sets.{Set, quoted, one_of, word}
use Rattle.sw_grammar_forms.specs.Form.{solid}
use Rattle.sw_grammar_forms.specs.Form.Form.{done, terminal, either, nest, shaped}
use Rattle.sw_grammar_forms.specs.Terminals.{◌>>=◌, expect, skip}
use Rattle.sw_grammar_forms.specs.Quotes.{quote}
use Rattle.sw_tree.specs.declared.name.Name.{Name}
use Rattle.sw_tree.specs.declared.expr.ClosureParam.{ClosureParam}
use Rattle.sw_tree.specs.declared.stmt.Stmt.{Stmt}
use Rattle.sw_grammar.specs.Around.{Around}
use Rattle.sw_grammar.specs.Tokens.{at_word, type_ext, name_in, at_in}
use Rattle.sw_grammar.specs.Nests.{in_captures, in_closure_params, in_empty, shape_of, Form}
use Rattle.sw_grammar.specs.Nests.{ClosureInside}
use Rattle.sw_grammar.specs.Types.{Typed, tree_of, written_type, type, some_of, list_of}
use Rattle.sw_grammar.specs.Words.{new_name}
use Rattle.sw_grammar.specs.Exprs.{loose}

-- what a closure has before its statements
pub record Header : Type 0 where
  pub mark : Option Name
  pub captures : List Name
  pub params : List ClosureParam
  pub result : Option Typed

abbrev pub no_header : Header
no_header = record { mark = None; captures = []; params = []; result = None }

-- parameters and a result
abbrev pub Signature : Type 0
Signature = List ClosureParam × Option Typed

abbrev pub header_of : Option Name → List Name → Signature → Header
header_of mark captures signature =
    record { mark = mark; captures = captures; params = signature.0; result = signature.1 }

abbrev pub inside_of : Header → List Stmt → ClosureInside
inside_of header body = record {
  mark = header.mark;
  captures = header.captures;
  params = header.params;
  result = tree_of header.result;
  body = body;
}

abbrev pub signature_ext : Set
signature_ext = quoted (codes "->") ++ type_ext

module _ (around : Around) where
  unfoldable pub captured : Form (solid word [] 0) Name
  captured = shaped _ (do
    name ← terminal (name_in around word (codes "print"))
    done name)

  -- Word {"," Word} "]"
  unfoldable pub captured_words : Form (shape_of in_captures) (List Name)
  captured_words = shaped _ (some_of around (codes "]") captured)

  -- caps
  unfoldable pub captures : Form (solid (quoted (codes "[")) [] 1) (List Name)
  captures = shaped _ (do
    words ← nest (quote (codes "[")) in_captures
    done words.1)

  -- [caps]
  unfoldable pub captures_if : Form (loose (quoted (codes "[")) (quoted (codes "["))) (List Name)
  captures_if = shaped _ (either captures (done []))

  -- Word ":" type
  unfoldable pub closure_param : Form (solid word type_ext 0) ClosureParam
  closure_param = shaped _ (do
    name ← new_name around
    _ ← expect (codes ":")
    written ← type around
    done (record { name = name; ty = written }))

  unfoldable pub closure_params : Form (shape_of (in_closure_params around.here)) (List ClosureParam)
  closure_params = shaped _ (list_of around (codes ")") closure_param)

  -- ["->" type]
  unfoldable pub result_if : Form (loose (quoted (codes "->")) (quoted (codes "->") ++ type_ext))
      (Option Typed)
  result_if = shaped _ (either (do
    _ ← expect (codes "->")
    written ← written_type around
    done (Some written)) (done None))

  -- "(" parameters ")" ["->" type]
  unfoldable pub signature : Form (solid (quoted (codes "(")) signature_ext 1) Signature
  signature = shaped _ (do
    params ← nest (quote (codes "(")) (in_closure_params around.here)
    result ← result_if
    done (params.1, result))

  unfoldable pub signature_if : Form
      (loose (quoted (codes "(")) (quoted (codes "(") ++ signature_ext)) Signature
  signature_if = shaped _ (either signature (done ([], None)))

  -- [["@Sendable"] [caps] ["(" .. ")" ["->" type]] "in"], with something before the "in"
  unfoldable pub header : Form
      (loose (one_of (codes "@Sendable" ∷ codes "[" ∷ codes "(" ∷ []))
      (one_of (codes "@Sendable" ∷ codes "[" ∷ codes "(" ∷ []))) Header
  header = shaped _ (either (do
    mark ← terminal (at_in around (quoted (codes "@Sendable")) (codes "@Sendable"))
    words ← captures_if
    written ← signature_if
    _ ← expect (codes "in")
    done (header_of (Some mark) words written)) (either (do
      words ← captures
      written ← signature_if
      _ ← expect (codes "in")
      done (header_of None words written)) (either (do
        written ← signature
        _ ← expect (codes "in")
        done (header_of None [] written)) (done no_header))))

  -- "(" ")" ["async"] ["->" type]
  unfoldable pub task_signature : Form
      (solid (quoted (codes "(")) (quoted (codes "async") ++ signature_ext) 1) Signature
  task_signature = shaped _ (do
    _ ← nest (quote (codes "(")) in_empty
    _ ← skip (codes "async")
    result ← result_if
    done ([], result))

  unfoldable pub task_signature_if : Form
      (loose (quoted (codes "(")) (quoted (codes "(") ++ quoted (codes "async") ++ signature_ext))
      Signature
  task_signature_if = shaped _ (either task_signature (done ([], None)))

  -- [[At] [caps] ["(" ")" ["async"] ["->" type]] "in"], with something before the "in"
  unfoldable pub task_header : Form
      (loose (at_word ++ one_of (codes "[" ∷ codes "(" ∷ []))
      (at_word ++ one_of (codes "[" ∷ codes "(" ∷ []))) Header
  task_header = shaped _ (either (do
    mark ← terminal (at_in around at_word (codes "@Sendable"))
    words ← captures_if
    written ← task_signature_if
    _ ← expect (codes "in")
    done (header_of (Some mark) words written)) (either (do
      words ← captures
      written ← task_signature_if
      _ ← expect (codes "in")
      done (header_of None words written)) (either (do
        written ← task_signature
        _ ← expect (codes "in")
        done (header_of None [] written)) (done no_header))))

-- Parts of entries that are functions of their own.
use Rattle.std.specs.Prelude.{codes}
use Rattle.sw_grammar_forms.specs.Form.{alt, one, seq, empty}
use Rattle.sw_grammar_forms.specs.Form.Form.{done, terminal, either}
use Rattle.sw_grammar_forms.specs.Terminals.{◌>>=◌, expect}
use Rattle.sw_grammar_forms.specs.Quotes.{quote}
use Rattle.sw_tree.specs.declared.decl.Written.{Written}
use Rattle.sw_tree.specs.declared.decl.Written.TheVariants as written
use Rattle.sw_grammar.specs.Around.{Around}
use Rattle.sw_grammar.specs.Nests.{Form}
use Rattle.sw_grammar.specs.Nests as nests
use Rattle.sw_grammar.specs.Tokens.{at_word, at_in}
use Rattle.sw_parse_decl.specs.declared.entry.Main.{Main}

-- the isolation of `main`
abbrev pub main_isolation : (around : Around)
    → Form (alt (seq (one (at_in around at_word (codes "@Sendable"))) empty)
    (alt (seq (one (quote (codes "nonisolated"))) empty) empty)) Written
main_isolation around =
    either (do
      mark ← terminal (at_in around at_word (codes "@Sendable"))
      done (written.At mark))
    (either (expect (codes "nonisolated") >>= λ _. done written.Nonisolated)
    (done written.Absent))

-- what an entry has beside its word, as the code holds it
abbrev pub main_of : nests.Main → Main
main_of main = record {
  written = main.written;
  at = main.at;
  is_async = main.is_async;
  body = main.body;
}

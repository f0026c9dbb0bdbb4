-- The readers of this grammar's forms.
use Rattle.std.specs.Prelude.{ℕ}
use Rattle.sw_grammar_forms.specs.Form.{Shape}
use Rattle.sw_grammar_forms.specs.Reader.{Reader}
use Rattle.sw_grammar_forms.specs.Spells.{reads}
use Rattle.sw_grammar.specs.Around.{Around}
use Rattle.sw_grammar.specs.Nests.{El, shape_of, Form}
use Rattle.sw_grammar.specs.Grammar.{body}

-- what a form reads, where its rules know this of what stands around them, and `depth` more nests
-- may be opened
abbrev pub read : Around → ℕ → {s : Shape} {A : Type 0} → Form s A → Reader A
read around depth form = reads El shape_of (body around.id_of) depth form

-- Rules that look at the ids of names alone: they are the same wherever they stand.
use Rattle.std.proofs.Common.{◌≡◌, refl}
use Rattle.sw_grammar.specs.Around.{Around, outermost}
use Rattle.sw_grammar.specs.Types.{types, type, written_type, marked_type, round_type, task_type}
use Rattle.sw_grammar.specs.Types.{named_type, task_inner}
use Rattle.sw_grammar.specs.Closures.{captured, captured_words}

module _ (around : Around) where
  pub same_type : type around ≡ type (outermost around.id_of)
  unfolding type written_type marked_type round_type task_type named_type
  same_type = refl

  pub same_types : types around ≡ types (outermost around.id_of)
  unfolding types type written_type marked_type round_type task_type named_type
  same_types = refl

  pub same_task_inner : task_inner around ≡ task_inner (outermost around.id_of)
  unfolding task_inner type written_type marked_type round_type task_type named_type
  same_task_inner = refl

  pub same_captured_words : captured_words around ≡ captured_words (outermost around.id_of)
  unfolding captured_words captured
  same_captured_words = refl

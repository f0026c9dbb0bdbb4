-- What the headers of closures and tasks weigh.
use Rattle.std.proofs.Common.{IsTrue, codes, refl, arith}
use Rattle.sw_grammar_forms.specs.Sets.{quoted, word}
use Rattle.sw_grammar_forms.specs.Relations.{Relation}
use Rattle.sw_tree.proofs.Counting.{in_all, in_option}
use Rattle.sw_grammar_facts.proofs.Owning.{none, Owns, own_done, own_then, own_either, own_past}
use Rattle.sw_grammar.specs.Around.{Around}
use Rattle.sw_grammar.specs.Nests.{Nest, El}
use Rattle.sw_grammar.specs.Nests.Nest.{in_captures, in_closure_params}
use Rattle.sw_grammar.specs.Tokens.{at_word}
use Rattle.sw_grammar.specs.Closures.{captured, captured_words, captures, captures_if}
use Rattle.sw_grammar.specs.Closures.{closure_param, closure_params, result_if, signature}
use Rattle.sw_grammar.specs.Closures.{signature_if, header, task_signature, task_signature_if}
use Rattle.sw_grammar.specs.Closures.{task_header}
use Rattle.sw_grammar_facts.proofs.Weighing.{Weighing}
use Rattle.sw_grammar_facts.proofs.NestWeights.{weight, of_typed_if, signed, headed, task_signed}
use Rattle.sw_grammar_facts.proofs.NestWeights.{task_headed}
use Rattle.sw_grammar_facts.proofs.TypeRules.{Keeps, own_list_of, own_some_of, own_name, own_mark}
use Rattle.sw_grammar_facts.proofs.TypeRules.{own_new_name, own_opened, own_type, own_written_type}
use Rattle.sw_grammar_facts.proofs.Unmarked.{fits}

module _ (around : Around) (w : Weighing around.id_of) (table : (n : Nest) → Relation (El n))
    (nests : (n : Nest) → IsTrue (fits n) → Owns w.tally none (table n) (weight w n)) where
  own_captured : Keeps w table (captured around) none w.node
  unfolding captured
  own_captured =
      own_then _ _ (own_name around w table word (codes "print") refl) (λ name.
      own_done _ (λ k. omega arith))

  pub own_captured_words : Keeps w table (captured_words around) none (in_all w.node)
  unfolding captured_words
  own_captured_words = own_some_of around w table (captured around) w.node own_captured (codes "]")

  own_captures : Keeps w table (captures around) none (in_all w.node)
  unfolding captures
  own_captures =
      own_then _ _ (own_opened w table nests (codes "[") refl in_captures refl) (λ words.
      own_done _ (λ k. omega arith))

  own_captures_if : Keeps w table (captures_if around) none (in_all w.node)
  unfolding captures_if in_all
  own_captures_if = own_either _ own_captures (own_done _ (λ k. omega arith))

  own_closure_param : Keeps w table (closure_param around) none w.closure_param
  unfolding closure_param
  own_closure_param =
      own_then _ _ (own_new_name around w table) (λ name. own_past _ (λ _.
      own_then _ _ (own_type around w table nests) (λ written. own_done _ (λ k.
      omega (arith, w.closure_param-is (record { name = name; ty = written }) k)))))

  pub own_closure_params : Keeps w table (closure_params around) none (in_all w.closure_param)
  unfolding closure_params
  own_closure_params =
      own_list_of around w table (closure_param around) w.closure_param own_closure_param (codes ")")

  own_result_if : Keeps w table (result_if around) none (of_typed_if w)
  unfolding result_if in_option
  own_result_if =
      own_either _ (own_past _ (λ _. own_then _ _ (own_written_type around w table nests) (λ written.
      own_done _ (λ k. omega arith)))) (own_done _ (λ k. omega arith))

  own_signature : Keeps w table (signature around) none (signed w)
  unfolding signature
  own_signature =
      own_then _ _ (own_opened w table nests (codes "(") refl (in_closure_params around.here) refl) (λ params.
      own_then _ _ own_result_if (λ result. own_done _ (λ k. omega arith)))

  own_signature_if : Keeps w table (signature_if around) none (signed w)
  unfolding signature_if in_all in_option
  own_signature_if = own_either _ own_signature (own_done _ (λ k. omega arith))

  pub own_header : Keeps w table (header around) none (headed w)
  unfolding header in_all in_option
  own_header =
      own_either _ (own_then _ _
      (own_mark around w table (quoted (codes "@Sendable")) (codes "@Sendable") refl) (λ mark.
      own_then _ _ own_captures_if (λ words. own_then _ _ own_signature_if (λ written.
      own_past _ (λ _. own_done _ (λ k. omega arith))))))
      (own_either _ (own_then _ _ own_captures (λ words. own_then _ _ own_signature_if (λ written.
      own_past _ (λ _. own_done _ (λ k. omega arith)))))
      (own_either _ (own_then _ _ own_signature (λ written.
      own_past _ (λ _. own_done _ (λ k. omega arith))))
      (own_done _ (λ k. omega arith))))

  own_task_signature : Keeps w table (task_signature around) none (task_signed w)
  unfolding task_signature in_all
  own_task_signature =
      own_past _ (λ _. own_past _ (λ _. own_then _ _ own_result_if (λ result.
      own_done _ (λ k. omega arith))))

  own_task_signature_if : Keeps w table (task_signature_if around) none (task_signed w)
  unfolding task_signature_if in_all in_option
  own_task_signature_if = own_either _ own_task_signature (own_done _ (λ k. omega arith))

  pub own_task_header : Keeps w table (task_header around) none (task_headed w)
  unfolding task_header in_all in_option
  own_task_header =
      own_either _ (own_then _ _ (own_mark around w table at_word (codes "@Sendable") refl) (λ mark.
      own_then _ _ own_captures_if (λ words. own_then _ _ own_task_signature_if (λ written.
      own_past _ (λ _. own_done _ (λ k. omega arith))))))
      (own_either _ (own_then _ _ own_captures (λ words.
      own_then _ _ own_task_signature_if (λ written.
      own_past _ (λ _. own_done _ (λ k. omega arith)))))
      (own_either _ (own_then _ _ own_task_signature (λ written.
      own_past _ (λ _. own_done _ (λ k. omega arith))))
      (own_done _ (λ k. omega arith))))

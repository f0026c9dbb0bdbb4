-- Lemmas on the line that Print writes.
use Rattle.std.proofs.Common.{◌≡◌, ℕ, ◌+◌, ◌<◌, ◌≤◌, false, cond, eqb, Option, Some, None, List, []}
use Rattle.std.proofs.Common.{◌∷◌, ◌++◌, length, take, get_or, refl, ap, sym, ◌∙◌, arith}
use Rattle.std.proofs.Common.{append_assoc, length-append}
use Rattle.std.specs.Option.{option_map}
use Rattle.std.specs.List.{join_with_byte}
use Rattle.std.proofs.lemmas.Bool.Decides.{nat_tests}
use Rattle.sw_graph.specs.declared.instr.Operand.{Operand}
use Rattle.sw_value.specs.Lists.{each_of}
use Rattle.sw_value.specs.Printed.{text_at, line_of, printed_line}
use Rattle.sw_value.specs.declared.value.Value.{Value}
use Rattle.std.proofs.lemmas.List.{length-take-le}
use Rattle.sw_value.proofs.ListLemmas.{each_more, each_lacks, each_all}

join_more : (texts : List (List ℕ)) (text : List ℕ) → 0 < length texts
    → join_with_byte 32 (texts ++ text ∷ []) ≡ join_with_byte 32 texts ++ 32 ∷ text
join_more [] text some = absurd (omega arith)
join_more (t ∷ []) text some = refl
join_more (t ∷ u ∷ texts) text some =
    ap (λ l. t ++ 32 ∷ l) (join_more (u ∷ texts) text (omega arith))
    ∙ sym (append_assoc t (32 ∷ join_with_byte 32 (u ∷ texts)) (32 ∷ text))

-- one more text, with a blank before it unless it is the first
join_push : (texts : List (List ℕ)) (text : List ℕ) (n : ℕ) → n ≡ length texts
    → join_with_byte 32 (texts ++ text ∷ []) ≡ join_with_byte 32 texts
    ++ cond (eqb n 0) text (32 ∷ text)
join_push [] text n e = rw e refl
join_push (t ∷ texts) text n e =
    let later : eqb n 0 ≡ false = grind (arith, nat_tests) in
    join_more (t ∷ texts) text (omega arith)
    ∙ ap (λ b. join_with_byte 32 (t ∷ texts) ++ cond b text (32 ∷ text)) (sym later)

-- what a line holds after some operands
pub record LineSoFar (regs : List (Option Value)) (operands : List Operand)
    (line : List ℕ) : Type 0 where
  pub texts : List (List ℕ)
  pub each : each_of (text_at regs) operands ≡ Some texts
  pub count : length texts ≡ length operands
  pub joined : line ≡ join_with_byte 32 texts

pub line_none : (regs : List (Option Value)) (operands : List Operand)
    → LineSoFar regs (take 0 operands) []
line_none regs operands = record { texts = []; each = refl; count = refl; joined = refl }

pub line_more : (regs : List (Option Value)) (operands : List Operand) (i : ℕ) (d : Operand)
    (line text : List ℕ) → i < length operands → LineSoFar regs (take i operands) line
    → text_at regs (get_or operands i d) ≡ Some text
    → LineSoFar regs (take (i + 1) operands) (line ++ cond (eqb i 0) text (32 ∷ text))
line_more regs operands i d line text inside so_far h =
    let here : length so_far.texts ≡ i = so_far.count ∙ length-take-le i operands (omega arith) in
    record {
      texts = so_far.texts ++ text ∷ [];
      each = each_more (text_at regs) operands i d so_far.texts text inside so_far.each h;
      count = length-append so_far.texts (text ∷ [])
          ∙ omega (arith, here, length-take-le (i + 1) operands (omega arith));
      joined =
          ap (λ l. l ++ cond (eqb i 0) text (32 ∷ text)) so_far.joined
          ∙ sym (join_push so_far.texts text i (sym here));
    }

pub line_lacks : (regs : List (Option Value)) (operands : List Operand) (i : ℕ) (d : Operand)
    → i < length operands → text_at regs (get_or operands i d) ≡ None
    → printed_line regs operands ≡ None
unfolding printed_line
line_lacks regs operands i d inside h =
    ap (option_map line_of) (each_lacks (text_at regs) operands i d inside h)

pub line_all : (regs : List (Option Value)) (operands : List Operand) (i : ℕ) (line : List ℕ)
    → length operands ≤ i → LineSoFar regs (take i operands) line
    → printed_line regs operands ≡ Some (line ++ 10 ∷ [])
unfolding printed_line
line_all regs operands i line past so_far =
    ap (option_map line_of) (each_all (text_at regs) operands i so_far.texts past so_far.each)
    ∙ ap (λ l. Some (l ++ 10 ∷ [])) (sym so_far.joined)

pub ruleset lines = (line_none, line_more, line_lacks, line_all)

-- What a call of each kind comes to.
use Rattle.std.proofs.Common.{◌≡◌, ℕ, ◌++◌, Bool, true, false, cond, List, [], ◌∷◌, Option, Some}
use Rattle.std.proofs.Common.{None, ◌∙◌, length, sym, subst}
use Rattle.sw_list.proofs.Members.{first_in}
use Rattle.sw_types.specs.declared.isolation.CallKind.{CallKind}
use Rattle.sw_types.specs.declared.isolation.CallKind.TheVariants.{Plain, Same, Weak, Strong, Make}
use Rattle.sw_graph.specs.declared.function.Function.{Function}
use Rattle.sw_graph.specs.declared.instr.Operand.{Operand}
use Rattle.sw_owner_facts.specs.View.{Element, Here}
use Rattle.sw_partition.specs.Regions.{Regions, size_of}
use Rattle.sw_region_ops.specs.Calls.{kind_ops, result_ops, call_ops, callee_ops}
use Rattle.sw_region_ops.specs.Elements.{element_at}
use Rattle.sw_region_ops.specs.Groups.{send_each, put_first, put_here}
use Rattle.sw_region_ops.specs.Marks.{sent_arguments, kept_arguments}
use Rattle.sw_region_ops.specs.declared.marks.Mark.{Mark}
use Rattle.sw_region_ops.specs.declared.op.Op.{Op}
use Rattle.sw_region_ops.proofs.RunLemmas.{runs_size}
use Rattle.sw_region_facts.specs.FrameRegions.{HaveOwnNumbers, IsStateOf, IsWeaker}
use Rattle.sw_region_facts.specs.Moves.{if_tracked, Sets, Gathers}
use Rattle.sw_region_facts.specs.Calling.{Lends, result_from, Calls, CallsFunction, sent_of, lent_of}
use Rattle.sw_region_facts.proofs.Comes.{sets_from_all}
use Rattle.sw_region_facts.proofs.Doing.{Done, parts}
use Rattle.sw_region_facts.proofs.Gathering.{met, kept, met_apart}
use Rattle.sw_region_facts.proofs.Marked.{AreMarked, passed_marked}
use Rattle.sw_region_facts.proofs.Sending.{sends_parted, sends_each}
use Rattle.sw_region_facts.proofs.Setting.{sets_fresh, sets_here, sets_first}
use Rattle.sw_region_facts.proofs.Weaker.{weaker_itself}

-- operations keep the elements of a state
pub done_sized : (elements : List (Option ℕ)) (ops : List Op) (a b : Regions) → Done ops a b
    → IsStateOf elements a → IsStateOf elements b
done_sized elements ops a b done sized = same_length (runs_size ops a b done.runs) ∙ sized where
  same_length : size_of b ≡ size_of a → length b.labels ≡ length a.labels
  same_length same = cc

module _ (elements : List (Option ℕ)) (own : HaveOwnNumbers elements) where
  lends : (kind : CallKind) (code site : ℕ) (xs : List Element) (marks : List Mark)
      → AreMarked elements xs marks → (a b : Regions) → IsStateOf elements a
      → Done (kind_ops kind code site marks) a b → Lends kind elements xs a b
  lends Plain code site xs marks marked a b sized done = met elements own a sized xs marks marked b done
  lends Same code site xs marks marked a b sized done = kept elements own a sized xs marks marked b done
  lends Weak code site xs marks marked a b sized done =
      met_apart elements own a sized code xs marks marked b done
  lends Strong code site xs marks marked a b sized done =
      sends_parted elements own a sized xs marks marked b code site done
  lends Make code site xs marks marked a b sized done =
      sends_parted elements own a sized xs marks marked b code site done

  -- ---- the result
  module _ (r : ℕ) (xs : List Element) (marks : List Mark) (marked : AreMarked elements xs marks)
      (before a b : Regions) (sized : IsStateOf elements a) where
    first_result : Gathers elements xs before a → Done (put_first (element_at elements r) marks) a b
        → Sets elements r (if_tracked (element_at elements r) xs) a b
    first_result gathers done = sets_first elements own a b sized r xs marks marked gathers.still
        gathers.together done

    here_result : Gathers elements (Here ∷ xs) before a → Done (put_here (element_at elements r)) a b
        → Sets elements r (if_tracked (element_at elements r) (Here ∷ xs)) a b
    here_result gathers done =
        by (element_at elements r) (sets_here elements own a b sized r done)
      where
        by : (o : Option ℕ) → Sets elements r (if_tracked o (Here ∷ [])) a b
            → Sets elements r (if_tracked o (Here ∷ xs)) a b
        by None sets = sets
        by (Some x) sets = sets_from_all elements r Here (Here ∷ xs) a b sets gathers.still
            (λ s has. gathers.together Here s (first_in Here xs) has)

    fresh_result : (o : Option ℕ) → Sets elements r [] a b → Sets elements r (if_tracked o []) a b
    fresh_result None sets = sets
    fresh_result (Some x) sets = sets

    result_of : (kind : CallKind) (sends : Bool) → Lends kind elements xs before a
        → Done (result_ops sends kind (element_at elements r) marks) a b
        → Sets elements r
        (cond sends [] (if_tracked (element_at elements r) (result_from kind xs))) a b
    result_of kind true lent done = sets_fresh elements own a b sized r done
    result_of Plain false lent done = first_result lent done
    result_of Same false lent done = here_result lent done
    result_of Weak false lent done = first_result lent.gathers done
    result_of Strong false lent done = fresh_result (element_at elements r)
        (sets_fresh elements own a b sized r done)
    result_of Make false lent done = fresh_result (element_at elements r)
        (sets_fresh elements own a b sized r done)

  pub calls : (kind : CallKind) (code site : ℕ) (sends : Bool) (r : ℕ) (sent lent : List Element)
      (sent_marks lent_marks : List Mark) → AreMarked elements sent sent_marks
      → AreMarked elements lent lent_marks → (a b : Regions) → IsStateOf elements a
      → Done (call_ops kind code site sends (element_at elements r) sent_marks lent_marks) a b
      → Calls elements kind sends r sent lent a b
  calls kind code site sends r sent lent sent_marks lent_marks sent_marked lent_marked a b sized
      done =
      let last = parts (send_each code site sent_marks ++ kind_ops kind code site lent_marks)
      (result_ops sends kind (element_at elements r) lent_marks) a b done in
      let first = parts (send_each code site sent_marks) (kind_ops kind code site lent_marks) a
      last.between last.before in
      let given_sized = done_sized elements (send_each code site sent_marks) a first.between
      first.before sized in
      let taken_sized = done_sized elements (kind_ops kind code site lent_marks) first.between
      last.between first.after given_sized in
      let lent_on = lends kind code site lent lent_marks lent_marked first.between last.between
      given_sized first.after in
      record {
        given = first.between;
        gives = sends_each elements own a sized sent sent_marks sent_marked first.between code site
            first.before;
        taken = last.between;
        lends = lent_on;
        result = result_of r lent lent_marks lent_marked first.between last.between b taken_sized
            kind sends lent_on last.after;
      }

  pub calls_function : (kind : CallKind) (code site r : ℕ) (operands : List Operand)
      (callee : Option Function) (a b : Regions) → IsStateOf elements a
      → Done (callee_ops kind code site (element_at elements r) elements operands callee) a b
      → CallsFunction elements kind r operands callee a b
  calls_function kind code site r operands None a b sized done =
      subst (IsWeaker elements a) (sym done.runs) (weaker_itself elements a)
  calls_function kind code site r operands (Some callee) a b sized done =
      calls kind code site callee.sends r (sent_of elements callee.sending operands)
      (lent_of elements callee.sending operands) (sent_arguments elements callee.sending operands)
      (kept_arguments elements callee.sending operands)
      (passed_marked elements callee.sending true 0 operands)
      (passed_marked elements callee.sending false 0 operands) a b sized done

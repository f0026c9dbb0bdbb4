-- The region operations of a call (SE-0414, SE-0430), by its kind.
use Rattle.std.specs.Prelude.{ℕ, Bool, true, false, if◌then◌else◌, Option, Some, None, List, []}
use Rattle.std.specs.Prelude.{◌++◌}
use Rattle.sw_types.specs.declared.isolation.Iso.{Iso}
use Rattle.sw_types.specs.declared.isolation.Iso.TheVariants.{Free, Own, Global, Caller}
use Rattle.sw_types.specs.declared.isolation.CallKind.{CallKind}
use Rattle.sw_types.specs.declared.isolation.CallKind.TheVariants.{Plain, Same, Weak, Strong, Make}
use Rattle.sw_graph.specs.declared.function.Function.{Function}
use Rattle.sw_graph.specs.declared.instr.Operand.{Operand}
use Rattle.sw_region_ops.specs.Groups.{send_each, free_each, join_all, fresh, put_here, put_first}
use Rattle.sw_region_ops.specs.Groups.{meet, keep, part_with}
use Rattle.sw_region_ops.specs.Marks.{sent_arguments, kept_arguments}
use Rattle.sw_region_ops.specs.declared.marks.Mark.{Mark}
use Rattle.sw_region_ops.specs.declared.op.Op.{Op}
use Rattle.sw_region_ops.specs.declared.op.TheConstants.{ISOLATED_TO_ACTOR, ISOLATED_TO_TASK}

-- whether a body is isolated to an actor or to a global actor (SE-0306, SE-0316); one that runs
-- where its caller runs isn't (SE-0461)
abbrev pub is_isolated : Iso → Bool
is_isolated Free = false
is_isolated Own = true
is_isolated (Global actor) = true
is_isolated Caller = false

-- what is wrong where a body gives away something that is with `Here`
abbrev pub free_code : Iso → ℕ
free_code iso = if is_isolated iso then ISOLATED_TO_ACTOR else ISOLATED_TO_TASK

-- The operations of a call of each kind on the arguments whose parameters aren't `sending`
-- (SE-0414). A plain callee may bring them into one region. One of the caller's own isolation may
-- keep them, so they go to `Here`. A weak call leaves the actor: the arguments may not be with
-- `Here`, which is breach `code`, and the callee may bring them into one region. A strong call and
-- an actor's initialiser hand them to another isolation: they may not be with `Here` either, and
-- are given away at this site.
abbrev pub kind_ops : CallKind → ℕ → ℕ → List Mark → List Op
kind_ops Plain code site kept = meet kept
kind_ops Same code site kept = keep kept
kind_ops Weak code site kept = free_each code kept ++ join_all kept
kind_ops Strong code site kept = part_with code site kept
kind_ops Make code site kept = part_with code site kept

-- what the result is, where it isn't `sending`
abbrev pub kind_result : CallKind → Option ℕ → List Mark → List Op
kind_result Plain r kept = put_first r kept
kind_result Same r kept = put_here r
kind_result Weak r kept = put_first r kept
kind_result Strong r kept = fresh r
kind_result Make r kept = fresh r

-- a `sending` result is alone
abbrev pub result_ops : Bool → CallKind → Option ℕ → List Mark → List Op
result_ops true kind r kept = fresh r
result_ops false kind r kept = kind_result kind r kept

-- The `sending` arguments are given away first, one after the other. Then the others have the
-- operations of the call's kind, and the last operation is that of the result.
abbrev pub call_ops : CallKind → ℕ → ℕ → Bool → Option ℕ → List Mark → List Mark → List Op
call_ops kind code site sends r sent kept =
    send_each code site sent ++ kind_ops kind code site kept ++ result_ops sends kind r kept

-- a call of a function, if there is that function
abbrev pub callee_ops : CallKind → ℕ → ℕ → Option ℕ → List (Option ℕ) → List Operand
    → Option Function → List Op
callee_ops kind code site r elements operands None = []
callee_ops kind code site r elements operands (Some callee) =
    call_ops kind code site callee.sends r (sent_arguments elements callee.sending operands)
    (kept_arguments elements callee.sending operands)

-- The first registers of a body's function are what the body takes.
use Rattle.std.proofs.Common.{◌≡◌, ◌≤◌, List, [], ◌∷◌, ◌++◌, Ok, length, map, refl, ap, subst, arith}
use Rattle.std.proofs.Common.{length-append}
use Rattle.std.proofs.lemmas.List.{length-map}
use Rattle.sw_graph.specs.declared.function.RegKind.{RegKind}
use Rattle.sw_graph.specs.declared.function.TheConstants.{MAX_REGISTERS}
use Rattle.sw_lower_plans.specs.Plan.{Numbers, Place, after}
use Rattle.sw_lower_plans.specs.Run.{Making, Meets, at_start}
use Rattle.sw_lower_code.specs.Code.{all, andthen, bind, done, reg}
use Rattle.sw_lower_code.specs.Whole.{Body, code_of, enter, piece_of, start_place}
use Rattle.sw_lower_code.specs.declared.taken.Taken.{Taken}

-- the kinds of what is taken
abbrev pub kinds_taken : List Taken → List RegKind
kinds_taken takes = map (λ (taken : Taken). taken.kind) takes

entered : (takes : List Taken) (place : Place)
    → ((all enter takes).plan place).regs ≡ kinds_taken takes
unfolding all andthen bind done reg
entered [] place = refl
entered (taken ∷ takes) place =
    ap (λ kinds. taken.kind ∷ kinds) (entered takes (after place ((enter taken).plan place)))

-- The first registers are those that the body takes.
pub begins_with_takes : (number : Numbers) (body : Body)
    → (rest : List RegKind)
    × ((piece_of number body).regs ≡ map (λ (taken : Taken). taken.kind) body.takes ++ rest)
unfolding code_of andthen
begins_with_takes number body =
    let place = after (start_place number)
    ((all enter body.takes).plan (start_place number)) in (
      (body.code.plan place).regs,
      ap (λ kinds. kinds ++ (body.code.plan place).regs) (entered body.takes (start_place number)),
    )

-- There are at least as many registers as it takes.
pub takes_registers : (number : Numbers) (body : Body)
    → length body.takes ≤ length (piece_of number body).regs
takes_registers number body =
    let begins = begins_with_takes number body in
    omega (
      arith,
      ap length begins.1,
      length-append (kinds_taken body.takes) begins.0,
      length-map body.takes (λ (taken : Taken). taken.kind),
    )

-- So a body whose code runs to its end takes no more than a function may have.
pub takes_few : (number : Numbers) (body : Body) (t : Making)
    → (code_of body).run (at_start number body.key body.iso body.is_async) ≡ Ok (tt, t)
    → length body.takes ≤ MAX_REGISTERS
takes_few number body t ran =
    let s = at_start number body.key body.iso body.is_async in
    let meets = subst (λ result. Meets s result (piece_of number body)) ran
    ((code_of body).same s (omega arith)) in
    let made = meets.1 in
    omega (arith, takes_registers number body, made.few (omega arith), ap length made.regs)

-- Copies, parts, payloads and values that are made are never stuck.
use Rattle.std.proofs.Common.{◌≡◌, ℕ, ◌+◌, Option, Some, None, List}
use Rattle.std.proofs.Common.{refl, ap, sym, ◌∙◌, subst}
use Rattle.std.specs.Prelude.{option_and_then}
use Rattle.std.specs.Option.{option_map}
use Rattle.std.specs.List.{slice_get, slice_set}
use Rattle.sw_list.proofs.ListLemmas.{some_injective, at_index}
use Rattle.sw_types.specs.declared.ty.Ty.TheVariants.{Named}
use Rattle.sw_graph.specs.declared.function.RegKind.TheVariants.{Plain}
use Rattle.sw_graph.specs.declared.graph.Graph.{Graph}
use Rattle.sw_graph.specs.declared.instr.Instr.TheVariants as instr
use Rattle.sw_graph.specs.declared.instr.Operand.{Operand}
use Rattle.sw_graph.specs.Kinds.{Goes, value, part, shape_of, is_struct, made_of}
use Rattle.sw_graph.specs.Payloads.{payload_at, PayloadFits}
use Rattle.sw_value.specs.declared.effect.Effect.TheVariants as effect
use Rattle.sw_value.specs.declared.frame.Frame.{Frame}
use Rattle.sw_value.specs.declared.state.State.{State}
use Rattle.sw_value.specs.declared.value.Value.{Value}
use Rattle.sw_value.specs.Effect.{needs, instr_effect}
use Rattle.sw_value.specs.Lists.{changed_at}
use Rattle.sw_value.specs.Value.{value_at, operand_value, field_of, with_field, payload_of, made}
use Rattle.sw_value.specs.Value.{tag_of}
use Rattle.sw_value.proofs.ListLemmas.{changed_at_there}
use Rattle.sw_machine_kind_facts.specs.Kinds.{HasKind, Referents}
use Rattle.sw_machine_kind_facts.proofs.FrameLemmas.{moves, front_plain, front_payload, stands_set, slots_set}
use Rattle.sw_machine_kind_facts.proofs.FrameLemmas.{still_set, switch_of}
use Rattle.sw_machine_kind_facts.proofs.GrowthLemmas.{no_more}
use Rattle.sw_machine_kind_facts.proofs.KindLemmas.{goes_to, goes_captured}
use Rattle.sw_machine_kind_facts.proofs.OperandLemmas.{gathered_in}
use Rattle.sw_machine_kind_facts.proofs.PartLemmas.{goes_there, field_has, field_put, payload_has, made_has}
use Rattle.sw_machine_kind_facts.proofs.PlaceLemmas.{instr_at_place}
use Rattle.sw_machine_kind_facts.proofs.TopLemmas.{TopFits, IsAt, kinds_at, operand_at, puts, set_there}
use Rattle.sw_machine_kind_facts.proofs.TopLemmas.{StandsAt}

pub copy_fits : (graph : Graph) (world : Referents) (state : State) (frame : Frame) (depth at r : ℕ)
    (s : Operand) → (x : IsAt graph world state frame (instr.Copy at r s))
    → TopFits graph world state x.run.function frame
    (instr_effect graph state depth frame (frame.point + 1) (instr.Copy at r s))
copy_fits graph world state frame depth at r s x =
    let kinds = kinds_at graph world state frame (instr.Copy at r s) x in
    let operand = operand_at graph world state frame (instr.Copy at r s) x 0 s refl in
    set_there graph world state x.run.function frame (frame.point + 1) r
    (operand_value frame.regs s) operand.value operand.has
    (puts graph world state frame (instr.Copy at r s) x refl r refl operand.value
    (goes_to graph.shapes world.cells operand.value operand.kind
    (slice_get x.run.function.regs s.reg)
    (slice_get x.run.function.regs r) operand.fits operand.is
    (goes_captured (slice_get x.run.function.regs s.reg) (slice_get x.run.function.regs r) kinds)))

pub field_fits : (graph : Graph) (world : Referents) (state : State) (frame : Frame)
    (depth at r : ℕ)
    (s : Operand) (i : ℕ) → (x : IsAt graph world state frame (instr.Field at r s i))
    → TopFits graph world state x.run.function frame
    (instr_effect graph state depth frame (frame.point + 1) (instr.Field at r s i))
field_fits graph world state frame depth at r s i x =
    let regs = x.run.function.regs in
    let kinds = kinds_at graph world state frame (instr.Field at r s i) x in
    let operand = operand_at graph world state frame (instr.Field at r s i) x 0 s refl in
    let there = goes_there (part (shape_of graph.shapes is_struct (slice_get regs s.reg)) i)
    (slice_get regs r) kinds in
    let found = field_has graph.shapes world.cells operand.value operand.kind operand.fits i there.0
    (ap (λ k. part (shape_of graph.shapes is_struct k) i) (sym operand.is) ∙ there.2) in
    set_there graph world state x.run.function frame (frame.point + 1) r
    (option_and_then (field_of i) (operand_value frame.regs s)) found.0
    (ap (option_and_then (field_of i)) operand.has ∙ found.1)
    (puts graph world state frame (instr.Field at r s i) x refl r refl found.0
    (goes_to graph.shapes world.cells found.0 there.0
    (part (shape_of graph.shapes is_struct (slice_get regs s.reg)) i) (slice_get regs r) found.2
    there.2 (goes_captured (part (shape_of graph.shapes is_struct (slice_get regs s.reg)) i)
    (slice_get regs r) kinds)))

pub payload_fits : (graph : Graph) (world : Referents) (state : State) (frame : Frame)
    (depth at r : ℕ) (s : Operand) (i : ℕ)
    → (x : IsAt graph world state frame (instr.Payload at r s i))
    → TopFits graph world state x.run.function frame
    (instr_effect graph state depth frame (frame.point + 1) (instr.Payload at r s i))
payload_fits graph world state frame depth at r s i x =
    let run = x.run in
    let regs = run.function.regs in
    let place = run.stands.place in
    let operand = operand_at graph world state frame (instr.Payload at r s i) x 0 s refl in
    let here = instr_at_place run.function frame.point place (instr.Payload at r s i) x.here in
    let unpacked = run.stands.front place.block place.is at r s i here in
    let payloads = run.well.payloads place.number place.block place.is in
    let fit = at_index (PayloadFits graph.shapes run.function place.number) place.block.instrs
    place.index (instr.Payload at r s i) payloads.each here in
    let switch = switch_of graph.shapes run.function place.number at r s i fit unpacked.source
    unpacked.from unpacked.tag unpacked.is unpacked.leads in
    let there = goes_there (payload_at graph.shapes (slice_get regs s.reg) unpacked.tag i)
    (slice_get regs r) switch.goes in
    let same : unpacked.value ≡ operand.value = some_injective (sym unpacked.has ∙ operand.has) in
    let found = payload_has graph.shapes world.cells operand.value operand.kind operand.fits
    unpacked.tag i (ap tag_of (sym same) ∙ unpacked.tagged) there.0
    (ap (λ k. payload_at graph.shapes k unpacked.tag i) (sym operand.is) ∙ there.2) in
    let went = goes_to graph.shapes world.cells found.0 there.0
    (payload_at graph.shapes (slice_get regs s.reg) unpacked.tag i) (slice_get regs r) found.2
    there.2 (goes_captured (payload_at graph.shapes (slice_get regs s.reg) unpacked.tag i)
    (slice_get regs r) switch.goes) in
    set_there graph world state run.function frame (frame.point + 1) r
    (option_and_then (payload_of i) (operand_value frame.regs s)) found.0
    (ap (option_and_then (payload_of i)) operand.has ∙ found.1)
    (stands_set graph.shapes world.cells world.cells run.function frame.point frame.regs
    (instr.Payload at r s i) r found.0 went.kind run.stands x.here refl
    (front_payload graph.shapes run.function frame.point frame.regs found.0 at r s i place payloads
    x.here unpacked) tt (no_more world.cells) went.is went.has)

-- a register with a value is there
slot_there : (regs : List (Option Value)) (r : ℕ) (v : Value) → value_at regs r ≡ Some v
    → slice_get regs r ≡ Some (Some v)
slot_there regs r v = by (slice_get regs r) where
  by : (o : Option (Option Value)) → option_and_then (λ w. w) o ≡ Some v → o ≡ Some (Some v)
  by None e = cc
  by (Some w) e = ap Some e

pub set_field_fits : (graph : Graph) (world : Referents) (state : State) (frame : Frame)
    (depth at : ℕ) (r : Operand) (i : ℕ) (s : Operand)
    → (x : IsAt graph world state frame (instr.SetField at r i s))
    → TopFits graph world state x.run.function frame
    (instr_effect graph state depth frame (frame.point + 1) (instr.SetField at r i s))
unfolding TopFits
set_field_fits graph world state frame depth at r i s x =
    let run = x.run in
    let regs = run.function.regs in
    let place = run.stands.place in
    let kinds = kinds_at graph world state frame (instr.SetField at r i s) x in
    let owner = operand_at graph world state frame (instr.SetField at r i s) x 0 r refl in
    let operand = operand_at graph world state frame (instr.SetField at r i s) x 1 s refl in
    let there = goes_there (slice_get regs s.reg)
    (part (shape_of graph.shapes is_struct (slice_get regs r.reg)) i) kinds in
    let at_owner = ap (λ k. part (shape_of graph.shapes is_struct k) i) (sym owner.is) ∙ there.3 in
    let found = field_has graph.shapes world.cells owner.value owner.kind owner.fits i there.1
    at_owner in
    let went = goes_to graph.shapes world.cells operand.value operand.kind (slice_get regs s.reg)
    (Some there.1) operand.fits operand.is
    (goes_captured (slice_get regs s.reg) (Some there.1)
    (subst (Goes (slice_get regs s.reg)) there.3 kinds)) in
    let has = subst (HasKind graph.shapes world.cells operand.value) (some_injective (sym went.is))
    went.has in
    let put = field_put graph.shapes world.cells owner.value owner.kind owner.fits i there.1
    at_owner
    operand.value has in
    let changed : changed_at (option_map (with_field i operand.value)) r.reg frame.regs
    ≡ slice_set frame.regs r.reg (Some (with_field i operand.value owner.value)) =
    changed_at_there (option_map (with_field i operand.value)) r.reg frame.regs (Some owner.value)
    (slot_there frame.regs r.reg owner.value owner.has) in
    subst (λ o. TopFits graph world state run.function frame
    (needs o (λ v. needs (option_and_then (field_of i) (operand_value frame.regs r))
    (λ old. effect.SetField r.reg i v (frame.point + 1))))) (sym operand.has)
    (subst (λ o. TopFits graph world state run.function frame
    (needs o (λ old. effect.SetField r.reg i operand.value (frame.point + 1))))
    (sym (ap (option_and_then (field_of i)) owner.has ∙ found.1))
    (subst (StandsAt graph world.cells run.function None (frame.point + 1)) (sym changed)
    (moves graph.shapes world.cells world.cells run.function None frame.point frame.regs
    (slice_set frame.regs r.reg (Some (with_field i operand.value owner.value)))
    (instr.SetField at r i s) run.stands x.here
    (front_plain graph.shapes run.function None frame.point
    (slice_set frame.regs r.reg (Some (with_field i operand.value owner.value)))
    (instr.SetField at r i s) place (run.well.payloads place.number place.block place.is) x.here
    refl) tt
    (slots_set graph.shapes world.cells frame.regs regs r.reg
    (with_field i operand.value owner.value) owner.kind run.stands.slots owner.is put)
    (still_set frame.regs r.reg (with_field i operand.value owner.value))
    (λ k inside is apart. cc))))

pub make_fits : (graph : Graph) (world : Referents) (state : State) (frame : Frame)
    (depth at r k : ℕ)
    (tag : Option ℕ) (ss : List Operand)
    → (x : IsAt graph world state frame (instr.Make at r k tag ss))
    → TopFits graph world state x.run.function frame
    (instr_effect graph state depth frame (frame.point + 1) (instr.Make at r k tag ss))
unfolding TopFits
make_fits graph world state frame depth at r k tag ss x =
    let regs = x.run.function.regs in
    let kinds = kinds_at graph world state frame (instr.Make at r k tag ss) x in
    let all = gathered_in graph.shapes world.cells regs frame.regs Goes goes_captured ss
    (made_of graph.shapes k tag) (operand_at graph world state frame (instr.Make at r k tag ss) x)
    kinds.0 in
    let values = all.gathers.values in
    subst (λ o. TopFits graph world state x.run.function frame
    (needs o (λ parts. effect.Set r (made tag parts) (frame.point + 1)))) (sym all.gathers.are)
    (puts graph world state frame (instr.Make at r k tag ss) x refl r refl (made tag values)
    (goes_to graph.shapes world.cells (made tag values) (Plain (Named k)) (value (Named k))
    (slice_get regs r)
    (made_has graph.shapes world.cells k tag values all.kinds all.are all.gathers.have) refl
    (goes_captured (value (Named k)) (slice_get regs r) kinds.1)))

-- A frame that goes on stands at its next point.
use Rattle.std.proofs.Common.{◌≡◌, ℕ, zero, suc, ◌+◌, ◌<◌, ◌≤◌, ◌⊎◌, inl, inr, Bool, true, false}
use Rattle.std.proofs.Common.{◌||◌, not, cond, IsTrue, Option, Some, None, List, [], ◌∷◌, length}
use Rattle.std.proofs.Common.{refl, ap, sym, ◌∙◌, subst, arith}
use Rattle.std.specs.Prelude.{option_and_then}
use Rattle.std.specs.List.{slice_get, slice_set}
use Rattle.std.proofs.lemmas.Bool.{cases_eq}
use Rattle.std.proofs.lemmas.List.{length-set}
use Rattle.std.proofs.lemmas.Map.Views.{exact_unsigned_eq}
use Rattle.sw_list.proofs.ListLemmas.{some_injective, at_index}
use Rattle.sw_types.specs.declared.shape.Shape.{Shape}
use Rattle.sw_graph.specs.declared.function.Function.{Function}
use Rattle.sw_graph.specs.declared.function.RegKind.{RegKind}
use Rattle.sw_graph.specs.declared.instr.Block.{Block}
use Rattle.sw_graph.specs.declared.instr.Instr.{Instr}
use Rattle.sw_graph.specs.declared.instr.Instr.TheVariants.{Payload}
use Rattle.sw_graph.specs.declared.instr.Last.{Last}
use Rattle.sw_graph.specs.declared.instr.Last.TheVariants.{Jump, Branch, Switch, Return}
use Rattle.sw_graph.specs.declared.instr.Operand.{Operand}
use Rattle.sw_graph.specs.Kinds.{Goes}
use Rattle.sw_graph.specs.Mentions.{set_by, blocks_of}
use Rattle.sw_graph.specs.Payloads.{is_payload, has_payload, in_front, payload_at, Unpacks}
use Rattle.sw_graph.specs.Payloads.{PayloadFits, PayloadsFit}
use Rattle.sw_graph.specs.Points.{Middle, End, point_in, block_start}
use Rattle.sw_graph.specs.Ways.{is_number, point_sets, is_set}
use Rattle.sw_value.specs.declared.value.Value.{Value}
use Rattle.sw_value.specs.Value.{value_at}
use Rattle.sw_machine_kind_facts.specs.Kinds.{HasKind, SlotsFit}
use Rattle.sw_machine_kind_facts.specs.Standing.{PlaceOfPoint, Unpacked, Front, HasConst, Stands}
use Rattle.sw_graph.specs.Sure.{on, to, further, MayTake, point_before}
use Rattle.sw_machine_kind_facts.proofs.GrowthLemmas.{slots_grow}
use Rattle.sw_machine_kind_facts.specs.Kinds.{IsMore}
use Rattle.sw_machine_kind_facts.proofs.ItemLemmas.{set_here, set_elsewhere}
use Rattle.sw_machine_kind_facts.proofs.PlaceLemmas.{instr_at_place, next_place, block_place}
use Rattle.sw_machine_kind_facts.proofs.SureLemmas.{before_next, no_wait, start_const}

either : (a b : Bool) → IsTrue (a || b) → IsTrue a ⊎ IsTrue b
either true b holds = inl refl
either false b holds = inr holds

-- the register that is set after a point is the one that its instruction sets, or was set before
set_after : (function : Function) (p : ℕ) (passed : List ℕ) (instr : Instr) (r : ℕ)
    → point_in function p ≡ Some (Middle instr) → IsTrue (is_set function (p ∷ passed) r)
    → (set_by instr ≡ Some r) ⊎ IsTrue (is_set function passed r)
set_after function p passed instr r here holds =
    elim (either (is_number r (set_by instr)) (is_set function passed r)
    (subst (λ o. IsTrue (point_sets r o || is_set function passed r)) here holds)) [
      | inl sets ↦ inl (by (set_by instr) sets)
      | inr before ↦ inr before
    ] where
      by : (o : Option ℕ) → IsTrue (is_number r o) → o ≡ Some r
      by None is = cc
      by (Some n) is = ap Some (exact_unsigned_eq n r is)

-- The top frame goes on after its instruction. `more` has the kinds of the cells then.
pub moves : (shapes : List Shape) (cells more : List RegKind) (function : Function)
    (awaits : Option ℕ) (p : ℕ) (regs after : List (Option Value)) (instr : Instr)
    → (s : Stands shapes cells function None p regs) → point_in function p ≡ Some (Middle instr)
    → Front function awaits after s.place.number (s.place.index + 1)
    → HasConst awaits after (Some (Middle instr)) → SlotsFit shapes more after function.regs
    → ((r : ℕ) (v : Value) → value_at regs r ≡ Some v → (w : Value) × (value_at after r ≡ Some w))
    → ((r : ℕ) → r < length function.regs → set_by instr ≡ Some r → (awaits ≡ Some r → ⊥)
    → (w : Value) × (value_at after r ≡ Some w))
    → Stands shapes more function awaits (p + 1) after
moves shapes cells more function awaits p regs after instr s here front constant slots old new =
    record {
      place = next_place function p s.place instr here;
      front = front;
      constant = subst (HasConst awaits after) (sym (before_next function p instr here)) constant;
      passed = p ∷ s.passed;
      way = further p (p + 1) s.passed s.way (on p instr here);
      slots = slots;
      has = λ r inside set apart. elim (set_after function p s.passed instr r here set) [
        | inl sets ↦ new r inside sets apart
        | inr before ↦ let was = s.has r inside before (λ e. cc) in old r was.0 was.1
      ];
    }

-- Where an instruction of a list takes a payload, the list has one.
payload_there : (instrs : List Instr) (k at r : ℕ) (s : Operand) (i : ℕ)
    → slice_get instrs k ≡ Some (Payload at r s i) → has_payload instrs ≡ true
payload_there [] k at r s i e = cc
payload_there (x ∷ xs) zero at r s i e =
    ap (λ x. is_payload x || has_payload xs) (some_injective e)
payload_there (x ∷ xs) (suc k) at r s i e =
    by (is_payload x) (payload_there xs k at r s i e) where
      by : (b : Bool) → has_payload xs ≡ true → (b || has_payload xs) ≡ true
      by true has = refl
      by false has = has

none_after : (instrs : List Instr) (k : ℕ) (instr : Instr) (at r : ℕ) (s : Operand) (i : ℕ)
    → IsTrue (in_front instrs) → slice_get instrs k ≡ Some instr → is_payload instr ≡ false
    → slice_get instrs (suc k) ≡ Some (Payload at r s i) → ⊥
none_after [] k instr at r s i front here plain next = cc
none_after (x ∷ xs) zero instr at r s i front here plain next =
    let same : x ≡ instr = some_injective here in
    let none : not (has_payload xs) ≡ true =
    sym (ap (λ b. cond b (in_front xs) (not (has_payload xs))) (ap is_payload same ∙ plain)) ∙
    front in
    let some = payload_there xs zero at r s i next in
    let wrong : not true ≡ true = sym (ap not some) ∙ none in cc
none_after (x ∷ xs) (suc k) instr at r s i front here plain next =
    by (is_payload x) front (λ rest. none_after xs k instr at r s i rest here plain next) where
      by : (b : Bool) → IsTrue (cond b (in_front xs) (not (has_payload xs)))
          → (IsTrue (in_front xs) → ⊥) → ⊥
      by true rest later = later rest
      by false none later = let some = payload_there xs (suc k) at r s i next in
          let wrong : not true ≡ true = sym (ap not some) ∙ none in cc

pub front_plain : (shapes : List Shape) (function : Function) (awaits : Option ℕ) (p : ℕ)
    (after : List (Option Value)) (instr : Instr) (place : PlaceOfPoint function p)
    → PayloadsFit shapes function place.number place.block
    → point_in function p ≡ Some (Middle instr) → is_payload instr ≡ false
    → Front function awaits after place.number (place.index + 1)
front_plain shapes function awaits p after instr place fits here plain block is at r s i next =
    let same : block ≡ place.block = some_injective (sym is ∙ place.is) in
    absurd (none_after place.block.instrs place.index instr at r s i fits.front
    (instr_at_place function p place instr here) plain
    (ap (slice_get place.block.instrs) (let next_is : suc place.index ≡ place.index + 1 = omega
    arith in next_is)
    ∙ ap (λ (b : Block). slice_get b.instrs (place.index + 1)) (sym same) ∙ next))

-- A payload comes from a switch on its operand.
pub record IsSwitch (shapes : List Shape) (function : Function) (last : Last) (tag : ℕ)
    (s : Operand) (i r : ℕ) : Type 0 where
  pub subject : Operand
  pub to : List ℕ
  pub is : last ≡ Switch subject to
  pub same : subject.reg ≡ s.reg
  pub goes : Goes (payload_at shapes (slice_get function.regs s.reg) tag i)
      (slice_get function.regs r)

switch_is : (shapes : List Shape) (function : Function) (last : Last) (tag : ℕ) (s : Operand)
    (i r : ℕ) → Unpacks shapes function.regs last tag s i r
    → IsSwitch shapes function last tag s i r
switch_is shapes function (Switch subject blocks) tag s i r unpacks = record {
  subject = subject;
  to = blocks;
  is = refl;
  same = unpacks.0;
  goes = unpacks.1;
}
switch_is shapes function (Jump next) tag s i r unpacks = absurd unpacks
switch_is shapes function (Branch subject holds fails) tag s i r unpacks = absurd unpacks
switch_is shapes function (Return value) tag s i r unpacks = absurd unpacks

pub switch_of : (shapes : List Shape) (function : Function) (number : ℕ) (at r : ℕ)
    (s : Operand) (i : ℕ) → PayloadFits shapes function number (Payload at r s i)
    → (source : ℕ) (from : Block) (tag : ℕ) → slice_get function.blocks source ≡ Some from
    → slice_get (blocks_of from.last) tag ≡ Some number
    → IsSwitch shapes function from.last tag s i r
switch_of shapes function number at r s i fits source from tag is leads =
    switch_is shapes function from.last tag s i r
    (at_index (λ (block : Block). (t : ℕ) → slice_get (blocks_of block.last) t ≡ Some number
    → Unpacks shapes function.regs block.last t s i r) function.blocks source from fits.2 is tag
    leads)

same_subject : (shapes : List Shape) (function : Function) (last : Last) (tag : ℕ)
    (s t : Operand) (i j r q : ℕ) → IsSwitch shapes function last tag s i r
    → IsSwitch shapes function last tag t j q → s.reg ≡ t.reg
same_subject shapes function last tag s t i j r q first second =
    let both : Switch first.subject first.to ≡ Switch second.subject second.to =
    sym first.is ∙ second.is in
    let same : first.subject ≡ second.subject = cc in
    sym first.same ∙ ap (λ (o : Operand). o.reg) same ∙ second.same

-- After a payload another of the same operand may be taken.
pub front_payload : (shapes : List Shape) (function : Function) (p : ℕ)
    (regs : List (Option Value)) (v : Value) (at r : ℕ) (s : Operand) (i : ℕ)
    (place : PlaceOfPoint function p) → PayloadsFit shapes function place.number place.block
    → point_in function p ≡ Some (Middle (Payload at r s i))
    → Unpacked function None place.number s.reg regs
    → Front function None (slice_set regs r (Some v)) place.number (place.index + 1)
front_payload shapes function p regs v at r s i place fits here unpacked block is at' r' s' i' next
    =
    let same : block ≡ place.block = some_injective (sym is ∙ place.is) in
    let later : slice_get place.block.instrs (place.index + 1) ≡ Some (Payload at' r' s' i') =
    ap (λ (b : Block). slice_get b.instrs (place.index + 1)) (sym same) ∙ next in
    let this = at_index (PayloadFits shapes function place.number) place.block.instrs place.index
    (Payload at r s i) fits.each (instr_at_place function p place (Payload at r s i) here) in
    let that = at_index (PayloadFits shapes function place.number) place.block.instrs
    (place.index + 1) (Payload at' r' s' i') fits.each later in
    let switch = switch_of shapes function place.number at r s i this unpacked.source unpacked.from
    unpacked.tag unpacked.is unpacked.leads in
    let other = switch_of shapes function place.number at' r' s' i' that unpacked.source
    unpacked.from unpacked.tag unpacked.is unpacked.leads in
    let one : s.reg ≡ s'.reg =
    same_subject shapes function unpacked.from.last unpacked.tag s s' i i' r r' switch other in
    record {
      ready = refl;
      source = unpacked.source;
      from = unpacked.from;
      is = unpacked.is;
      tag = unpacked.tag;
      leads = unpacked.leads;
      value = unpacked.value;
      has = ap (value_at (slice_set regs r (Some v))) (sym one)
          ∙ set_elsewhere regs r s.reg v (λ e. this.1 (sym e)) ∙ unpacked.has;
      tagged = unpacked.tagged;
    }

-- the slots with one more value
pub slots_set : (shapes : List Shape) (cells : List RegKind) (slots : List (Option Value))
    (kinds : List RegKind) (r : ℕ) (v : Value) (kind : RegKind)
    → SlotsFit shapes cells slots kinds → slice_get kinds r ≡ Some kind
    → HasKind shapes cells v kind → SlotsFit shapes cells (slice_set slots r (Some v)) kinds
slots_set shapes cells slots kinds r v kind fits at has = record {
  count = length-set slots r (Some v) ∙ fits.count;
  each = λ k w other here there. elim (cases_eq k r) [
    | inl same ↦
        let where_is : slice_get kinds r ≡ Some other = ap (slice_get kinds) (sym same) ∙ there in
        let kinds_same : kind ≡ other = some_injective (sym at ∙ where_is) in
        let found : value_at (slice_set slots r (Some v)) r ≡ Some w =
        ap (value_at (slice_set slots r (Some v))) (sym same) ∙ here in
        by k w other found kinds_same
    | inr apart ↦ fits.each k w other (sym (set_elsewhere slots r k v apart) ∙ here) there
  ];
} where
  old : (o : Option (Option Value)) (w : Value) → o ≡ Some (Some v)
      → option_and_then (λ x. x) o ≡ Some w → v ≡ w
  old None w e h = cc
  old (Some None) w e h = cc
  old (Some (Some x)) w e h = cc

  within : (xs : List (Option Value)) (k : ℕ) (w : Value)
      → value_at (slice_set xs k (Some v)) k ≡ Some w → v ≡ w
  within [] k w e = cc
  within (x ∷ xs) zero w e = cc
  within (x ∷ xs) (suc k) w e = within xs k w e

  by : (k : ℕ) (w : Value) (other : RegKind)
      → value_at (slice_set slots r (Some v)) r ≡ Some w → kind ≡ other
      → HasKind shapes cells w other
  by k w other found same =
      subst (λ o. HasKind shapes cells w o) same
      (subst (λ x. HasKind shapes cells x kind) (within slots r w found) has)

-- what had a value has one once a register is set
pub still_set : (regs : List (Option Value)) (r : ℕ) (v : Value) (k : ℕ) (w : Value)
    → value_at regs k ≡ Some w → (x : Value) × (value_at (slice_set regs r (Some v)) k ≡ Some x)
still_set [] r v k w e = cc
still_set (x ∷ xs) zero v zero w e = (v, refl)
still_set (x ∷ xs) zero v (suc k) w e = (w, e)
still_set (x ∷ xs) (suc r) v zero w e = (w, e)
still_set (x ∷ xs) (suc r) v (suc k) w e = still_set xs r v k w e

-- the instruction gives a register a value
pub stands_set : (shapes : List Shape) (cells more : List RegKind) (function : Function) (p : ℕ)
    (regs : List (Option Value)) (instr : Instr) (r : ℕ) (v : Value) (kind : RegKind)
    → (s : Stands shapes cells function None p regs) → point_in function p ≡ Some (Middle instr)
    → set_by instr ≡ Some r
    → Front function None (slice_set regs r (Some v)) s.place.number (s.place.index + 1)
    → HasConst None (slice_set regs r (Some v)) (Some (Middle instr)) → IsMore cells more
    → slice_get function.regs r ≡ Some kind → HasKind shapes more v kind
    → Stands shapes more function None (p + 1) (slice_set regs r (Some v))
stands_set shapes cells more function p regs instr r v kind s here sets front constant grows at has
    =
    let slots = s.slots in
    moves shapes cells more function None p regs (slice_set regs r (Some v)) instr s here front
    constant (slots_set shapes more regs function.regs r v kind
    (slots_grow shapes cells more grows regs function.regs s.slots) at has)
    (still_set regs r v)
    (λ k inside is apart. let same : k ≡ r = some_injective (sym is ∙ sets) in (
      v,
      ap (value_at (slice_set regs r (Some v))) same
          ∙ set_here regs r v (let few : r < length function.regs = subst
          (λ n. n < length function.regs)
          same inside in let count = slots.count in omega (arith, count, few)),
    ))

-- the instruction sets no register yet
pub stands_on : (shapes : List Shape) (cells : List RegKind) (function : Function)
    (awaits : Option ℕ) (p : ℕ) (regs : List (Option Value)) (instr : Instr)
    → (s : Stands shapes cells function None p regs) → point_in function p ≡ Some (Middle instr)
    → set_by instr ≡ awaits
    → Front function awaits regs s.place.number (s.place.index + 1)
    → HasConst awaits regs (Some (Middle instr))
    → Stands shapes cells function awaits (p + 1) regs
stands_on shapes cells function awaits p regs instr s here sets front constant =
    moves shapes cells cells function awaits p regs regs instr s here front constant s.slots
    (λ r v e. (v, e)) (λ r inside is apart. absurd (apart (sym sets ∙ is)))

-- the frame goes on at a block
pub stands_jumps : (shapes : List Shape) (cells : List RegKind) (function : Function)
    (p : ℕ) (regs : List (Option Value)) (last : Last) (k number q : ℕ) (block : Block)
    → (s : Stands shapes cells function None p regs) → point_in function p ≡ Some (End last)
    → slice_get (blocks_of last) k ≡ Some number → block_start function number ≡ Some q
    → slice_get function.blocks number ≡ Some block → Front function None regs number 0
    → MayTake last (point_before function p) k → Stands shapes cells function None q regs
stands_jumps shapes cells function p regs last k number q block s here leads starts is front may =
    record {
      place = block_place function number q block is starts;
      front = front;
      constant = start_const function None regs number q block is starts;
      passed = p ∷ s.passed;
      way = further p q s.passed s.way (to p last k number q here leads starts may);
      slots = s.slots;
      has = λ r inside set apart. s.has r inside
          (subst (λ o. IsTrue (point_sets r o || is_set function s.passed r)) here set) apart;
    }

-- the frame gets what it awaits
pub stands_gets : (shapes : List Shape) (cells : List RegKind) (function : Function) (p : ℕ)
    (regs : List (Option Value)) (r : ℕ) (v : Value) (kind : RegKind)
    → Stands shapes cells function (Some r) p regs → slice_get function.regs r ≡ Some kind
    → HasKind shapes cells v kind → Stands shapes cells function None p (slice_set regs r (Some v))
stands_gets shapes cells function p regs r v kind s at has = record {
  place = s.place;
  front = λ block is at' q o i next. let u = s.front block is at' q o i next in
      let ready = u.ready in absurd (let c : ⊥ = cc in c);
  constant = no_wait r None regs (slice_set regs r (Some v)) (point_before function p) s.constant;
  passed = s.passed;
  way = s.way;
  slots = slots_set shapes cells regs function.regs r v kind s.slots at has;
  has = λ k inside set apart. elim (cases_eq k r) [
    | inl same ↦ (
      v,
      ap (value_at (slice_set regs r (Some v))) same
          ∙ set_here regs r v (let few : r < length function.regs = subst
          (λ n. n < length function.regs) same inside in
          let count = s.slots.count in omega (arith, count, few)),
    )
    | inr other ↦ let was = s.has k inside set (λ e. other (sym (some_injective e))) in
        still_set regs r v k was.0 was.1
  ];
}

-- the frame awaits a result that is for no register
pub stands_free : (shapes : List Shape) (cells : List RegKind) (function : Function) (r p : ℕ)
    (regs : List (Option Value)) → Stands shapes cells function (Some r) p regs
    → length function.regs ≤ r → Stands shapes cells function None p regs
stands_free shapes cells function r p regs s past = record {
  place = s.place;
  front = λ block is at' q o i next. let u = s.front block is at' q o i next in
      let ready = u.ready in absurd (let c : ⊥ = cc in c);
  constant = no_wait r None regs regs (point_before function p) s.constant;
  passed = s.passed;
  way = s.way;
  slots = s.slots;
  has = λ k inside set apart. s.has k inside set
      (λ e. let same : r ≡ k = some_injective e in absurd (omega (arith, same, past, inside)));
}

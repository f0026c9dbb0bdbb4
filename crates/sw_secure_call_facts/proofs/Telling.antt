-- What the kind of a call tells of its callee and of the caller's function.
use Rattle.std.proofs.Common.{◌≡◌, Bool, true, false, cond, ◌==◌, Option}
use Rattle.std.proofs.Common.{List, refl}
use Rattle.std.proofs.lemmas.Bool.{eqb-true}
use Rattle.sw_types.specs.declared.isolation.CallKind.{CallKind}
use Rattle.sw_types.specs.declared.isolation.CallKind.TheVariants.{Plain, Same, Weak, Strong, Make}
use Rattle.sw_types.specs.declared.isolation.Iso.{Iso}
use Rattle.sw_types.specs.declared.isolation.Iso.TheVariants as iso
use Rattle.sw_types.specs.CallKinds.{kind_by}
use Rattle.sw_value.specs.declared.value.Value.{Value}
use Rattle.sw_owner_facts.specs.View.{Nonisolated}
use Rattle.sw_view_facts.specs.Views.{isolation_by}

-- isolated to no actor
abbrev pub IsFree : Iso → Type 0
IsFree iso.Free = Unit {0}
IsFree iso.Caller = Unit {0}
IsFree iso.Own = ⊥
IsFree (iso.Global g) = ⊥

-- both to their own `self`, or both to one global actor
abbrev pub AreAlike : Iso → Iso → Type 0
AreAlike iso.Own iso.Own = Unit {0}
AreAlike (iso.Global a) (iso.Global b) = a ≡ b
AreAlike _ _ = ⊥

-- to an actor
abbrev pub IsToActor : Iso → Type 0
IsToActor iso.Own = Unit {0}
IsToActor (iso.Global g) = Unit {0}
IsToActor iso.Free = ⊥
IsToActor iso.Caller = ⊥

abbrev pub Tells : CallKind → Bool → Iso → Iso → Type 0
Tells Plain makes target body = (makes ≡ false) × IsFree target
Tells Same makes target body = (makes ≡ false) × AreAlike target body
Tells Weak makes target body = (makes ≡ false) × (target ≡ iso.Free)
Tells Strong makes target body = (makes ≡ false) × IsToActor target
Tells Make makes target body = makes ≡ true

pub tells : (makes async on_self : Bool) (target body : Iso)
    → Tells (cond makes Make (kind_by target async on_self body)) makes target body
tells true async on_self target body = refl
tells false false on_self iso.Free body = (refl, tt)
tells false true on_self iso.Free iso.Free = (refl, tt)
tells false true on_self iso.Free iso.Own = (refl, refl)
tells false true on_self iso.Free (iso.Global g) = (refl, refl)
tells false true on_self iso.Free iso.Caller = (refl, refl)
tells false async on_self iso.Caller body = (refl, tt)
tells false async true iso.Own iso.Own = (refl, tt)
tells false async true iso.Own iso.Free = (refl, tt)
tells false async true iso.Own (iso.Global g) = (refl, tt)
tells false async true iso.Own iso.Caller = (refl, tt)
tells false async false iso.Own iso.Own = (refl, tt)
tells false async false iso.Own iso.Free = (refl, tt)
tells false async false iso.Own (iso.Global g) = (refl, tt)
tells false async false iso.Own iso.Caller = (refl, tt)
tells false async on_self (iso.Global a) (iso.Global b) = by (a == b) refl where
  by : (c : Bool) → (a == b) ≡ c
      → Tells (cond c Same Strong) false (iso.Global a) (iso.Global b)
  by true is = (refl, eqb-true a b is)
  by false is = (refl, tt)
tells false async on_self (iso.Global a) iso.Free = (refl, tt)
tells false async on_self (iso.Global a) iso.Own = (refl, tt)
tells false async on_self (iso.Global a) iso.Caller = (refl, tt)

pub free_isolation : (i : Iso) (regs : List (Option Value)) → IsFree i
    → isolation_by i regs ≡ Nonisolated
free_isolation iso.Free regs free = refl
free_isolation iso.Caller regs free = refl
free_isolation iso.Own regs free = absurd free
free_isolation (iso.Global g) regs free = absurd free

-- How a call crosses between isolations (SE-0306, SE-0316, SE-0338, SE-0461).
use Rattle.std.specs.Prelude.{ℕ, Bool, true, cond, ◌==◌}
use Rattle.sw_types.specs.declared.isolation.Iso.{Iso}
use Rattle.sw_types.specs.declared.isolation.Iso.TheVariants.{Free, Own, Global, Caller}
use Rattle.sw_types.specs.declared.isolation.CallKind.{CallKind}
use Rattle.sw_types.specs.declared.isolation.CallKind.TheVariants.{Plain, Same, Weak, Strong, Make}

-- What is known of a callee: its isolation, whether it is asynchronous, whether it is the
-- initialiser of an actor, and whether it is called on the caller's own `self`.
pub record Callee : Type 0 where
  pub iso : Iso
  pub is_async : Bool
  pub is_initialiser : Bool
  pub on_self : Bool

-- an asynchronous callee that is isolated to no actor, by the isolation of its caller
abbrev pub async_kind : Iso → CallKind
async_kind Free = Plain
async_kind Own = Weak
async_kind (Global actor) = Weak
async_kind Caller = Weak

-- a callee that is isolated to `self`
abbrev pub own_kind : Bool → Iso → CallKind
own_kind true Own = Same
own_kind _ _ = Strong

-- a callee that is isolated to a global actor
abbrev pub global_kind : ℕ → Iso → CallKind
global_kind actor (Global other) = cond (actor == other) Same Strong
global_kind actor _ = Strong

abbrev pub kind_by : Iso → Bool → Bool → Iso → CallKind
kind_by Free is_async on_self body = cond is_async (async_kind body) Plain
kind_by Caller is_async on_self body = Plain
kind_by Own is_async on_self body = own_kind on_self body
kind_by (Global actor) is_async on_self body = global_kind actor body

-- the kind of a call, by its callee and by the isolation of the caller's body
abbrev pub call_kind : Callee → Iso → CallKind
call_kind callee body =
    cond callee.is_initialiser Make (kind_by callee.iso callee.is_async callee.on_self body)

-- Bodies that take an actor first, and functions of an actor.
use Rattle.std.specs.Prelude.{◌≡◌, ℕ, List, ◌∷◌, Some, slice_get}
use Rattle.sw_types.specs.declared.shape.Shape.{Shape}
use Rattle.sw_types.specs.declared.shape.ShapeKind.TheVariants.{Actor}
use Rattle.sw_types.specs.declared.ty.Ty.TheVariants.{Named}
use Rattle.sw_graph.specs.declared.function.RegKind.TheVariants.{Plain}
use Rattle.sw_decls.specs.declared.signature.Signature.{Signature}
use Rattle.sw_lower_code.specs.declared.taken.Taken.{Taken}

-- the shape with a number is that of an actor
pub record IsActorAt (shapes : List Shape) (k : ℕ) : Type 0 where
  pub shape : Shape
  pub at : slice_get shapes k ≡ Some shape
  pub is : shape.kind ≡ Actor

-- The first that is taken is an actor.
pub record TakesFirst (shapes : List Shape) (takes : List Taken) : Type 0 where
  pub k : ℕ
  pub one : Taken
  pub more : List Taken
  pub are : takes ≡ one ∷ more
  pub kind : one.kind ≡ Plain (Named k)
  pub actor : IsActorAt shapes k

-- a function of the type with a number, which is an actor
pub record IsOfActor (shapes : List Shape) (func : Signature) : Type 0 where
  pub k : ℕ
  pub owner : func.owner ≡ Some k
  pub actor : IsActorAt shapes k

-- Tables that agree everywhere.
use Rattle.std.proofs.Common.{◌≡◌, ℕ}

pub same_tables : {A : Type 0} (one other : ℕ → A) → ((id : ℕ) → one id ≡ other id) → one ≡ other
same_tables one other agree = λ i id. agree id i

-- Lines with the state that they show.
use Rattle.sw_cert.specs.Shown.{Shows}
use Rattle.sw_cert.specs.declared.tables.Stated.{Stated}

abbrev pub IsStatedBy : Stated → Type 0
IsStatedBy stated = Shows stated.line stated.state

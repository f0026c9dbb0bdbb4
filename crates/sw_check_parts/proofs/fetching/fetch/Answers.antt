use Rattle.std.proofs.Common.{Err, ap}
use Rattle.sw_check_parts.proofs.FetchLemmas.{file_fetched, file_too_long, file_not_read}
use Rattle.sw_check_parts.proofs.FetchLemmas.{file_not_requested}
use Rattle.sw_check_parts.proofs.fetching.fetch.Goals as goal

pub returns-in-Ok-clause-done : goal.returns-in-Ok-clause-done
returns-in-Ok-clause-done g c =
    rw c.from_vec.ensures (file_fetched c.in-Ok.text.items c.in-Ok.ensures.within
    c.in-Ok.ensures.found c.in-Ok.ensures.requested_ok c.in-Ok.ensures.steady_ok)

pub returns-in-Err-TooLong-clause-done : goal.returns-in-Err-TooLong-clause-done
returns-in-Err-TooLong-clause-done g c =
    let long = ap Err c.in-Err-TooLong.field-0-is in
    let e = c.in-Err-TooLong.ensures in
    rw c.too_long.ensures (file_too_long c.requires (e.long_known long) (e.long_unknown long)
    (e.requested_long long) (e.steady_long long))

pub returns-in-Err-Failed-clause-done : goal.returns-in-Err-Failed-clause-done
returns-in-Err-Failed-clause-done g c =
    let failed = ap Err c.in-Err-Failed.field-0-is in
    file_not_read (c.in-Err-Failed.ensures.requested_failed failed)
    (c.in-Err-Failed.ensures.failed failed)

pub returns-in-Err-Memory-clause-done : goal.returns-in-Err-Memory-clause-done
returns-in-Err-Memory-clause-done g c =
    let memory = ap Err c.in-Err-Memory.field-0-is in
    file_not_requested (c.in-Err-Memory.ensures.memory_known memory)
    (c.in-Err-Memory.ensures.memory_faults memory)

-- What the outcome of a test says of the table that it is for.
use Rattle.std.proofs.Common.{◌≡◌, Some, None, Result, Ok, Err, refl}
use Rattle.std.specs.Result.{result_err}

-- a table with a refusal has that refusal
pub table_of_refused : {S E : Type 0} (table : Result S E) (e : E) → Some e ≡ result_err table → table ≡ Err e
table_of_refused (Ok s) e h = cc
table_of_refused (Err f) e h = cc

-- a table without a refusal has a value
pub table_of_taken : {S E : Type 0} (table : Result S E) → None ≡ result_err table → (s : S) × (table ≡ Ok s)
table_of_taken (Ok s) h = (s, refl)
table_of_taken (Err f) h = cc

-- A number below 10 is one digit; of any other its tenth is written first, and a tenth is less.
use native.Mathlib.Omega.{arith}
use Rattle.groups.proofs.Filled.{owes, owes_is, byte_fits, part_fits, part_written, all_written}
use Rattle.report.proofs.Text.{decimal_one, decimal_more}
use Rattle.report.proofs.+put_decimal.Goals as goal

pub put_byte-requires : goal.put_byte-requires
put_byte-requires t c = byte_fits (owes_is (decimal_one _ c.if-x-lt10.true) (owes c.args.w.now _ c.requires))

pub returns-then-x-lt10 : goal.returns-then-x-lt10
returns-then-x-lt10 t c = all_written (owes_is (decimal_one _ c.if-x-lt10.true) (owes _ _ c.requires)) c.put_byte.ensures

pub put_decimal-requires : goal.put_decimal-requires
put_decimal-requires t c = (omega arith, part_fits _ _ (owes_is (decimal_more _ c.if-x-lt10.false) (owes c.args.w.now _ c.requires)))

pub put_byte-requires-2 : goal.put_byte-requires-2
put_byte-requires-2 t c =
    byte_fits (part_written _ _ (owes_is (decimal_more _ c.if-x-lt10.false) (owes c.args.w.now _ c.requires)) c.put_decimal.ensures)

pub returns : goal.returns
returns t c =
    all_written (part_written _ _ (owes_is (decimal_more _ c.if-x-lt10.false) (owes _ _ c.requires)) c.put_decimal.ensures) c.put_byte-2.ensures

use Rattle.eip_line.proofs.faults.write_fault.Goals as goal

pub returns-in-BadProfile : goal.returns-in-BadProfile
returns-in-BadProfile g c = rw c.in-BadProfile.is (rw c.from.ensures at c.write_numbered-in-BadProfile.ensures)

pub returns-in-Read : goal.returns-in-Read
returns-in-Read g c = rw c.in-Read.is c.write_text-in-Read.ensures

pub returns-in-Write : goal.returns-in-Write
returns-in-Write g c = rw c.in-Write.is c.write_text-in-Write.ensures

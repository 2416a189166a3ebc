use Rattle.page_server.proofs.page.requests.body_in.Goals as goal

pub returns-in-Err : goal.returns-in-Err
returns-in-Err c is = absurd (c.in-Err.ensures.cases.0 is)

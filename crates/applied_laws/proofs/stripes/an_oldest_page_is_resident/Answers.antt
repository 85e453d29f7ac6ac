use Rattle.applied_laws.proofs.stripes.an_oldest_page_is_resident.Goals as goal

pub returns : goal.returns
returns c = λ h x r p s is. (c.picks_know.ensures.oldest h x r p s is).present

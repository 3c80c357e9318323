use Rattle.xhstt_writer.proofs.StreamLemmas.{faultless_starved, faultless_whole, sent_whole, sent_front, sink_refused}
use Rattle.xhstt_writer.proofs.stream.send.Goals as goal

pub returns-in-None-clause-whole : goal.returns-in-None-clause-whole
returns-in-None-clause-whole g c = sent_whole _ _ c.stream_to.result _ c.in-None.is c.stream_to.ensures

pub returns-in-Some-clause-front : goal.returns-in-Some-clause-front
returns-in-Some-clause-front g c = sent_front _ _ c.stream_to.result c.in-Some.fault _ c.in-Some.is c.stream_to.ensures

pub returns-in-Some-clause-failed : goal.returns-in-Some-clause-failed
returns-in-Some-clause-failed g c = sink_refused _ _ c.stream_to.result c.in-Some.fault _ c.in-Some.is
    c.stream_to.ensures

pub returns-in-Some-clause-counted : goal.returns-in-Some-clause-counted
returns-in-Some-clause-counted g c = c.stream_to.ensures.counted

pub returns-in-None-clause-counted : goal.returns-in-None-clause-counted
returns-in-None-clause-counted g c = c.stream_to.ensures.counted

pub returns-in-None-clause-faultless : goal.returns-in-None-clause-faultless
returns-in-None-clause-faultless g c = faultless_whole _ _ c.stream_to.result _ c.in-None.is c.stream_to.ensures

pub returns-in-Some-clause-faultless_starved : goal.returns-in-Some-clause-faultless_starved
returns-in-Some-clause-faultless_starved g c =
    faultless_starved _ _ c.stream_to.result c.in-Some.fault _ c.in-Some.is c.stream_to.ensures

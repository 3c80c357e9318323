-- What a request of `khe-talk` asks for.
use Rattle.talk_app.specs.Words.{Asked}
use Rattle.talk_app.specs.declared.words.Request.{Request}

abbrev pub asked_of : Request → Asked
asked_of r = record { archive = r.archive.now; solution = r.solution; demands = r.demands }

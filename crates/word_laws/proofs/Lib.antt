mod OutcomeLaws
mod ReadExamples

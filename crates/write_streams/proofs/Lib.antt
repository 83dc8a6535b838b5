mod BookLemmas
mod AfterLemmas
mod StandsLemmas
